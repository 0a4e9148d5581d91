-- The plan of an accepted file is within the bounds of this edition.
use Rattle.std.specs.Prelude.{◌≡◌, replicate}
use mathlib.Core.List.{List}
use Prim.Native.Nat.{ℕ}
use Rattle.network.specs.Network.{side, edition, network_of}
use Rattle.network.specs.Layout.{Layout, Within}
use Rattle.network.specs.declared.Sections.{Sections}
use Rattle.rows.specs.Table.{links_in}
use Rattle.plan.specs.declared.Plan.{Plan}
use Rattle.plan.specs.Wire.{Wired}
use Rattle.plan.specs.Plans.{plan_for}
use Rattle.plan.specs.Measure.{Bounded}
use Rattle.plan.specs.Planned.{plan_made}
use Rattle.plan.proofs.Measure.{plan_bounded}

-- The plan of an accepted file, by what `plan_of` knows.
module _ (s : List ℕ) (parts : Sections) (layout : Layout s parts) (start links : List ℕ) (e : start ≡ replicate side 0)
    (joins : ℕ) (w : Wired (network_of s).switches start links joins) (r : Plan) (p : r ≡ plan_for parts.vertices (links_in links) joins) where
  pub plan_few : Within edition parts → Bounded edition r.joins r.work
  plan_few within = plan_bounded edition s parts layout within r (plan_made s parts layout start links e joins w r p)
