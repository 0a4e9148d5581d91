-- The answers are right: under every setting, a vertex's formula is true exactly where the path rule leads to it.
use Rattle.std.specs.Prelude.{◌≡◌, ◌↔◌, List, ℕ, ◌+◌, ◌<◌, length}
use Rattle.std.proofs.Math.Logic.Iff
use Rattle.std.proofs.Math.Bool.{So}
use Rattle.analysis.specs.Result.{eliminated}
use Rattle.analysis.specs.Wiring.{wired}
use Rattle.elimination.specs.Plan.{work_of}
use Rattle.links.specs.Lists.{vertices}
use Rattle.links.specs.Switches.{links_of, joins_of}
use Rattle.links.specs.Symmetry.{symmetric_links}
use Rattle.network.specs.Network.{Network}
use Rattle.paths.specs.Paths.{Reached}
use Rattle.sheet.specs.declared.Cell.TheVariants.{Start}
use Rattle.truth.specs.Carry.{truths}
use Rattle.truth.specs.Past.{agree_sym, agree_leads}
use Rattle.truth.specs.Systems.{Leads}
use Rattle.truth.proofs.Theorem.{rule_m, read_truths}
use Rattle.meaning.specs.Ranged.{Ranged}
use Rattle.meaning.specs.Sheets.{worth_of, Standing}
use Rattle.meaning.specs.SheetLaws.{perform_standing, perform_worth}
use Rattle.meaning.specs.System.{system_of}
use Rattle.meaning.proofs.System.{leads_iff}
use Rattle.meaning.proofs.Wired.{wired_standing, wired_agrees}

module _ (net : Network) (ranged : Ranged net) where
  -- Records never exceed given formulas plus joins plus work.
  pub eliminated_standing :
      Standing (length net.variables) (length net.givens + joins_of net.switches + work_of (length net.starts) (links_of net.switches))
      (eliminated net)
  unfolding eliminated
  eliminated_standing = perform_standing _ _ _ (wired net) (wired_standing net ranged)

  module _ (setting : List ℕ) (sized : length setting ≡ length net.variables) (v : ℕ) (h : v < length net.starts) where
    -- The answer at a vertex is true exactly where the network's system leads to it,
    pub answer_leads : So (worth_of setting (eliminated net) (Start v)) ↔ Leads (system_of net setting) (vertices (length net.starts)) v
    unfolding eliminated
    answer_leads =
        let a = wired_agrees net ranged setting sized in
        rw (perform_worth setting (length net.variables) _ sized _ (wired net) (wired_standing net ranged) (Start v))
        (Iff.trans (rule_m truths (λ b. b) read_truths _ (symmetric_links net.switches) (length net.starts) (worth_of setting (wired net)) v h)
        (agree_leads a, agree_leads (agree_sym a)))

    -- and so by the path rule over its own switches.
    pub answer_right : So (worth_of setting (eliminated net) (Start v)) ↔ Reached net setting v
    answer_right = Iff.trans answer_leads (leads_iff net ranged setting v)
