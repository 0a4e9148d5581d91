-- What a function over the sheet asks, and what it promises: the sheet at exit, each byte of the buffer, and that it can go on.
use Rattle.std.specs.Prelude.{◌≡◌, refl, cond, length, get_or}
use Rattle.std.proofs.Math.Path.{sym}
use Rattle.std.proofs.Common.{ap, ◌∙◌, add-one}
use mathlib.Core.List.{List, [], ◌∷◌, ◌++◌, flat_map, append-nil, append_assoc}
use Prim.Native.Nat.{ℕ, suc, ◌+◌, ◌-◌, ◌≤◌, ◌<◌}
use Rattle.std.proofs.Math.Nat.{add-zero}
use native.Mathlib.Omega.{arith}
use Rattle.form.specs.References.{formula}
use Rattle.links.specs.Lists.{up_to, vertices}
use Rattle.records.specs.Bytes.{records_in}
use Rattle.records.specs.Grown.{Table, Grown, grown_none, grown_then, grown_length, table_less, table_after}
use Rattle.sheet.specs.Asks.{work}
use Rattle.sheet.specs.AskLaws.{work_append}
use Rattle.sheet.specs.Cells.{cell_count, cells_in}
use Rattle.sheet.specs.Perform.{Sheet, perform}
use Rattle.sheet.specs.PerformLaws.{perform_append}
use Rattle.sheet.specs.declared.Ask.{Ask}

-- The sheet in an array of cells and a buffer with records.
unfoldable pub sheet_in : List ℕ → List ℕ → ℕ → ℕ → Sheet
sheet_in cells out base count = record { cells = cells_in cells; records = records_in out base count }

-- Every cell holds a reference that is there.
pub record Held (p count : ℕ) (cells : List ℕ) : Type 0 where
  pub long : length cells ≡ cell_count
  pub below : (k : ℕ) → get_or cells k 0 < formula p count

-- So does the sheet's, and there is room for so many more records.
pub record Ready (p base more : ℕ) (cells out : List ℕ) (count : ℕ) : Type 0 where
  pub held : Held p count cells
  pub table : Table p base more count out

-- The sheet has become what f makes of it; at most so many records were added.
pub record Runs (p base : ℕ) (f : Sheet → Sheet) (most : ℕ) (cells out : List ℕ) (count : ℕ) (cells' out' : List ℕ) (count' : ℕ) : Type 0 where
  pub sheet : sheet_in cells' out' base count' ≡ f (sheet_in cells out base count)
  pub grown : Grown p base most out count out' count'
  pub held : Held p count' cells'

-- A plan has been carried out.
abbrev pub Ran : ℕ → ℕ → List Ask → List ℕ → List ℕ → ℕ → List ℕ → List ℕ → ℕ → Type 0
Ran p base xs cells out count cells' out' count' = Runs p base (perform p xs) (work xs) cells out count cells' out' count'

module _ (p base : ℕ) where
  -- With less to do there is room too.
  pub ready_less : (more less : ℕ) → less ≤ more → {c o : List ℕ} {n : ℕ} → Ready p base more c o n → Ready p base less c o n
  ready_less more less h r = record { held = r.held; table = table_less p base more less h r.table }

  -- What is left can be done afterwards.
  pub ready_after : (f : Sheet → Sheet) (a b : ℕ) {c o c' o' : List ℕ} {n n' : ℕ} → Ready p base (a + b) c o n → Runs p base f a c o n c' o' n'
      → Ready p base b c' o' n'
  ready_after f a b r x = record { held = x.held; table = table_after p base a b r.table x.grown }

  -- There is room for an operation, whichever cells it names.
  pub ready_one : (x : Ask) {c o : List ℕ} {n : ℕ} → Ready p base (work (x ∷ [])) c o n → Ready p base (cond x.joined 2 1) c o n
  unfolding work
  ready_one x r = rw add-zero at r

  -- Nothing is to be done.
  pub ran_none : {more : ℕ} {c o : List ℕ} {n : ℕ} → Ready p base more c o n → Ran p base [] c o n c o n
  unfolding perform work
  ran_none {c = c} {o = o} {n = n} r = record { sheet = refl; grown = grown_none p base n o r.table.orderly; held = r.held }

  -- One plan after another.
  pub ran_then : (xs ys : List Ask) {c₀ o₀ c₁ o₁ c₂ o₂ : List ℕ} {n₀ n₁ n₂ : ℕ} → Ran p base xs c₀ o₀ n₀ c₁ o₁ n₁
      → Ran p base ys c₁ o₁ n₁ c₂ o₂ n₂ → Ran p base (xs ++ ys) c₀ o₀ n₀ c₂ o₂ n₂
  ran_then xs ys x y =
      record {
        sheet = y.sheet ∙ ap (perform p ys) x.sheet ∙ sym (perform_append p xs ys _);
        grown = rw (work_append xs ys) (grown_then p base (work xs) (work ys) x.grown y.grown);
        held = y.held;
      }

  module _ (xs ys : List Ask) {c o : List ℕ} {n : ℕ} (r : Ready p base (work (xs ++ ys)) c o n) where
    -- The first of two plans can be carried out where both can,
    pub ready_first : Ready p base (work xs) c o n
    ready_first = ready_less (work (xs ++ ys)) (work xs) (omega (arith, work_append xs ys)) r

    -- and then the second.
    pub ready_second : {c' o' : List ℕ} {n' : ℕ} → Ran p base xs c o n c' o' n' → Ready p base (work ys) c' o' n'
    ready_second x = ready_after (perform p xs) (work xs) (work ys) (rw (work_append xs ys) at r) x

-- A loop over the first n numbers, with a plan for each: k turns are done, and those from k on are left.
pub record Looping (p base : ℕ) (turn : ℕ → List Ask) (n : ℕ) (c₀ o₀ : List ℕ) (n₀ k : ℕ) (cells out : List ℕ) (count : ℕ) : Type 0 where
  pub within : k ≤ n
  pub done : List Ask
  pub split : done ++ flat_map turn (up_to (n - k) k) ≡ flat_map turn (vertices n)
  pub ran : Ran p base done c₀ o₀ n₀ cells out count
  pub ready : Ready p base (work (flat_map turn (up_to (n - k) k))) cells out count
  pub same : length out ≡ length o₀

-- Its laws take the plan of a turn, and of the whole, under whatever name the code has for it.
module _ (p base : ℕ) (turn : ℕ → List Ask) (n : ℕ) {c₀ o₀ : List ℕ} {n₀ : ℕ} where
  pub looping_none : (whole : List Ask) → flat_map turn (vertices n) ≡ whole → Ready p base (work whole) c₀ o₀ n₀
      → Looping p base turn n c₀ o₀ n₀ 0 c₀ o₀ n₀
  looping_none whole w r =
      let e : n - 0 ≡ n = omega arith in
      record { within = omega arith; done = []; split = rw e; ran = ran_none p base r; ready = rw (e, w) r; same = refl }

  module _ {k : ℕ} {cells out : List ℕ} {count : ℕ} (inv : Looping p base turn n c₀ o₀ n₀ k cells out count) where
    -- What is left begins with turn k.
    begins : k < n → flat_map turn (up_to (n - k) k) ≡ turn k ++ flat_map turn (up_to (n - (k + 1)) (k + 1))
    unfolding flat_map
    begins h = let e : n - k ≡ suc (n - suc k) = omega arith in rw (add-one, e)

    pub looping_turn : k < n → (xs : List Ask) → xs ≡ turn k → Ready p base (work xs) cells out count
    looping_turn h xs e =
        rw e (ready_first p base (turn k) (flat_map turn (up_to (n - (k + 1)) (k + 1))) (rw (begins h) at inv.ready))

    pub looping_more : k < n → (xs : List Ask) → xs ≡ turn k → {c o : List ℕ} {m : ℕ} → Ran p base xs cells out count c o m
        → Looping p base turn n c₀ o₀ n₀ (k + 1) c o m
    looping_more h xs e y =
        let rest = flat_map turn (up_to (n - (k + 1)) (k + 1)) in
        let x = rw e at y in
        record {
          within = omega arith;
          done = inv.done ++ turn k;
          split = append_assoc inv.done (turn k) rest ∙ (rw (begins h) at inv.split);
          ran = ran_then p base inv.done (turn k) inv.ran x;
          ready = ready_second p base (turn k) rest (rw (begins h) at inv.ready) x;
          same = grown_length p base x.grown ∙ inv.same;
        }

    pub looping_all : n ≤ k → (whole : List Ask) → flat_map turn (vertices n) ≡ whole → Ran p base whole c₀ o₀ n₀ cells out count
    unfolding flat_map
    looping_all h whole w =
        let e : n - k ≡ 0 = omega arith in
        let s : inv.done ≡ whole = sym (append-nil inv.done) ∙ (rw e at inv.split) ∙ w in
        rw s at inv.ran
