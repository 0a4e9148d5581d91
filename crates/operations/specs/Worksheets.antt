-- The program's worksheet in a buffer: what a function over it asks, and what it promises.
use Rattle.std.specs.Prelude.{◌≡◌, refl, cond, List, [], ◌∷◌, ◌++◌, ℕ, ◌+◌, ◌≤◌, ◌<◌, replicate}
use Rattle.std.proofs.Common.{ap, ◌∙◌}
use mathlib.Core.List.{flat_map}
use Rattle.links.specs.Lists.{vertices}
use Rattle.records.specs.Entered.{Noted, Empty}
use Rattle.records.specs.Grown.{grown_then}
use Rattle.sheet.specs.Asks.{work}
use Rattle.sheet.specs.Cells.{cell_count}
use Rattle.sheet.specs.Perform.{Sheet, perform}
use Rattle.sheet.specs.declared.Ask.{Ask}
use Rattle.operations.specs.declared.Worksheet.{Worksheet}
use Rattle.operations.specs.Runs.{Ready, Runs, Ran, ready_less, ready_after, ready_one, ran_none, ran_then, ready_first, ready_second, Looping, looping_none, looping_turn, looping_more, looping_all}

-- Every cell holds constant false, and there are no records yet; they are numbered after so many variables.
pub record Blank (p : ℕ) (w : Worksheet) : Type 0 where
  pub cells : w.cells ≡ replicate cell_count 0
  pub records : Empty p w.records

-- There is room for so many more records, and every cell holds a reference that is there; the newest records are noted.
pub record Able (more : ℕ) (w : Worksheet) (out : List ℕ) : Type 0 where
  pub ready : Ready w.records.variables w.records.base more w.cells out w.records.count
  pub noted : Noted w.records out

-- The sheet has become what f makes of it, and lies where it was; at most so many records were added.
pub record Worked (f : Sheet → Sheet) (most : ℕ) (w : Worksheet) (out : List ℕ) (w' : Worksheet) (out' : List ℕ) : Type 0 where
  pub runs : Runs w.records.variables w.records.base f most w.cells out w.records.count w'.cells out' w'.records.count
  pub noted : Noted w'.records out'
  pub base : w'.records.base ≡ w.records.base
  pub variables : w'.records.variables ≡ w.records.variables

-- A plan has been carried out.
abbrev pub Carried : List Ask → Worksheet → List ℕ → Worksheet → List ℕ → Type 0
Carried xs w out w' out' = Worked (perform w.records.variables xs) (work xs) w out w' out'

module _ {w : Worksheet} {o : List ℕ} where
  -- With less to do there is room too.
  pub able_less : (more less : ℕ) → less ≤ more → Able more w o → Able less w o
  able_less more less h a = record { ready = ready_less w.records.variables w.records.base more less h a.ready; noted = a.noted }

  -- There is room for an operation, whichever cells it names.
  pub able_one : (x : Ask) → Able (work (x ∷ [])) w o → Able (cond x.joined 2 1) w o
  able_one x a = record { ready = ready_one w.records.variables w.records.base x a.ready; noted = a.noted }

  -- Nothing is to be done.
  pub carried_none : {more : ℕ} → Able more w o → Carried [] w o w o
  carried_none a = record { runs = ran_none w.records.variables w.records.base a.ready; noted = a.noted; base = refl; variables = refl }

  module _ {w' : Worksheet} {o' : List ℕ} where
    -- What is left can be done afterwards.
    pub able_after : (f : Sheet → Sheet) (a b : ℕ) → Able (a + b) w o → Worked f a w o w' o' → Able b w' o'
    able_after f a b able x =
        let r : Ready w.records.variables w.records.base b w'.cells o' w'.records.count = ready_after w.records.variables w.records.base f a b able.ready x.runs in
        record { ready = rw (x.variables, x.base) r; noted = x.noted }

    -- One change after another.
    pub worked_then : (f g : Sheet → Sheet) (a b : ℕ) {w″ : Worksheet} {o″ : List ℕ} → Worked f a w o w' o' → Worked g b w' o' w″ o″
        → Worked (λ st. g (f st)) (a + b) w o w″ o″
    worked_then f g a b {w″ = w″} {o″ = o″} x y =
        let t = w.records in
        let runs : Runs t.variables t.base g b w'.cells o' w'.records.count w″.cells o″ w″.records.count = rw (x.variables, x.base) at y.runs in
        record {
          runs = record {
            sheet = runs.sheet ∙ ap g x.runs.sheet;
            grown = grown_then t.variables t.base a b x.runs.grown runs.grown;
            held = runs.held;
          };
          noted = y.noted;
          base = y.base ∙ x.base;
          variables = y.variables ∙ x.variables;
        }

    -- One plan after another.
    pub carried_then : (xs ys : List Ask) {w″ : Worksheet} {o″ : List ℕ} → Carried xs w o w' o' → Carried ys w' o' w″ o″ → Carried (xs ++ ys) w o w″ o″
    carried_then xs ys {w″ = w″} {o″ = o″} x y =
        let ran : Ran w.records.variables w.records.base ys w'.cells o' w'.records.count w″.cells o″ w″.records.count = rw (x.variables, x.base) at y.runs in
        record {
          runs = ran_then w.records.variables w.records.base xs ys x.runs ran;
          noted = y.noted;
          base = y.base ∙ x.base;
          variables = y.variables ∙ x.variables;
        }

  module _ (xs ys : List Ask) (a : Able (work (xs ++ ys)) w o) where
    -- The first of two plans can be carried out where both can,
    pub able_first : Able (work xs) w o
    able_first = record { ready = ready_first w.records.variables w.records.base xs ys a.ready; noted = a.noted }

    -- and then the second.
    pub able_second : {w' : Worksheet} {o' : List ℕ} → Carried xs w o w' o' → Able (work ys) w' o'
    able_second {w' = w'} {o' = o'} x =
        let r : Ready w.records.variables w.records.base (work ys) w'.cells o' w'.records.count = ready_second w.records.variables w.records.base xs ys a.ready x.runs in
        record { ready = rw (x.variables, x.base) r; noted = x.noted }

-- A loop over the first n numbers, with a plan for each: k turns are done, and those from k on are left.
pub record Turning (turn : ℕ → List Ask) (n : ℕ) (w₀ : Worksheet) (o₀ : List ℕ) (k : ℕ) (w : Worksheet) (o : List ℕ) : Type 0 where
  pub looping : Looping w₀.records.variables w₀.records.base turn n w₀.cells o₀ w₀.records.count k w.cells o w.records.count
  pub noted : Noted w.records o
  pub base : w.records.base ≡ w₀.records.base
  pub variables : w.records.variables ≡ w₀.records.variables

module _ (turn : ℕ → List Ask) (n : ℕ) {w₀ : Worksheet} {o₀ : List ℕ} where
  pub turning_none : (whole : List Ask) → flat_map turn (vertices n) ≡ whole → Able (work whole) w₀ o₀ → Turning turn n w₀ o₀ 0 w₀ o₀
  turning_none whole e a =
      record {
        looping = looping_none w₀.records.variables w₀.records.base turn n whole e a.ready;
        noted = a.noted;
        base = refl;
        variables = refl;
      }

  module _ {k : ℕ} {w : Worksheet} {o : List ℕ} (inv : Turning turn n w₀ o₀ k w o) where
    pub turning_turn : k < n → (xs : List Ask) → xs ≡ turn k → Able (work xs) w o
    turning_turn h xs e =
        let r : Ready w₀.records.variables w₀.records.base (work xs) w.cells o w.records.count = looping_turn w₀.records.variables w₀.records.base turn n inv.looping h xs e in
        record { ready = rw (inv.variables, inv.base) r; noted = inv.noted }

    pub turning_more : k < n → (xs : List Ask) → xs ≡ turn k → {w' : Worksheet} {o' : List ℕ} → Carried xs w o w' o' → Turning turn n w₀ o₀ (k + 1) w' o'
    turning_more h xs e {w' = w'} {o' = o'} x =
        let ran : Ran w₀.records.variables w₀.records.base xs w.cells o w.records.count w'.cells o' w'.records.count = rw (inv.variables, inv.base) at x.runs in
        record {
          looping = looping_more w₀.records.variables w₀.records.base turn n inv.looping h xs e ran;
          noted = x.noted;
          base = x.base ∙ inv.base;
          variables = x.variables ∙ inv.variables;
        }

    pub turning_all : n ≤ k → (whole : List Ask) → flat_map turn (vertices n) ≡ whole → Carried whole w₀ o₀ w o
    turning_all h whole e =
        record {
          runs = looping_all w₀.records.variables w₀.records.base turn n inv.looping h whole e;
          noted = inv.noted;
          base = inv.base;
          variables = inv.variables;
        }
