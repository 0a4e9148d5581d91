-- The ways out of `check_within`: each section that was read tells its verdict and its count, and these give the answer.
use Rattle.std.specs.Prelude.{Result, Ok, Err}
use Rattle.std.proofs.Common.{◌≡◌, List, ℕ, ◌+◌, ◌*◌, ◌<◌, ◌≤◌, length}
use Rattle.form.specs.declared.Fault.{Fault}
use Rattle.form.specs.declared.Fault.TheVariants as faults
use Rattle.network.specs.Network.{variable_size, given_size, vertex_size, switch_size}
use Rattle.network.specs.Faults.{coil_fault, given_fault, vertex_fault, switch_fault, trailing_fault, network_fault}
use Rattle.network.specs.Layout.{network_answer}
use Rattle.network.specs.Verdicts.{trailing, no_trailing}
use Rattle.network.specs.declared.Limits.{Limits}
use Rattle.reader.specs.Answers.{checked_of}
use Rattle.reader.proofs.Whole.{Count, passed, stopped}

module _ (limits : Limits) (s : List ℕ) where
  -- Each section's answer, at the place that the counts before it give.
  abbrev pub Variables : Result ℕ Fault → Type 0
  Variables = Count limits.variables variable_size coil_fault s 0

  abbrev pub Givens : ℕ → Result ℕ Fault → Type 0
  Givens p = Count limits.givens given_size (given_fault p) s (2 + 2 * p)

  abbrev pub Vertices : ℕ → ℕ → Result ℕ Fault → Type 0
  Vertices p g = Count limits.vertices vertex_size (vertex_fault (2 + p + g)) s (2 + 2 * p + 2 + 6 * g)

  abbrev pub Switches : ℕ → ℕ → ℕ → Result ℕ Fault → Type 0
  Switches p g n = Count limits.switches switch_size (switch_fault n (2 + p + g)) s (2 + 2 * p + 2 + 6 * g + 2 + 2 * n)

  pub variables_wrong : {r : Result ℕ Fault} {f : Fault} → r ≡ Err f → Variables r → checked_of (Err f) ≡ network_answer limits s
  unfolding network_fault
  variables_wrong e c = let h = stopped _ _ _ _ _ e c in rw (← h)

  module _ {r₁ : Result ℕ Fault} {p : ℕ} (e₁ : r₁ ≡ Ok p) (c₁ : Variables r₁) where
    pub givens_wrong : {r : Result ℕ Fault} {f : Fault} → r ≡ Err f → Givens p r → checked_of (Err f) ≡ network_answer limits s
    unfolding network_fault
    givens_wrong e c =
        let h₁ = passed _ _ _ _ _ e₁ c₁ in
        let h = stopped _ _ _ _ _ e c in
        rw (← h₁.good, ← h₁.count, ← h)

    module _ {r₂ : Result ℕ Fault} {g : ℕ} (e₂ : r₂ ≡ Ok g) (c₂ : Givens p r₂) where
      pub vertices_wrong : {r : Result ℕ Fault} {f : Fault} → r ≡ Err f → Vertices p g r → checked_of (Err f) ≡ network_answer limits s
      unfolding network_fault
      vertices_wrong e c =
          let h₁ = passed _ _ _ _ _ e₁ c₁ in
          let h₂ = passed _ _ _ _ _ e₂ c₂ in
          let h = stopped _ _ _ _ _ e c in
          rw (← h₁.good, ← h₁.count, ← h₂.good, ← h₂.count, ← h)

      module _ {r₃ : Result ℕ Fault} {n : ℕ} (e₃ : r₃ ≡ Ok n) (c₃ : Vertices p g r₃) where
        pub switches_wrong : {r : Result ℕ Fault} {f : Fault} → r ≡ Err f → Switches p g n r → checked_of (Err f) ≡ network_answer limits s
        unfolding network_fault
        switches_wrong e c =
            let h₁ = passed _ _ _ _ _ e₁ c₁ in
            let h₂ = passed _ _ _ _ _ e₂ c₂ in
            let h₃ = passed _ _ _ _ _ e₃ c₃ in
            let h = stopped _ _ _ _ _ e c in
            rw (← h₁.good, ← h₁.count, ← h₂.good, ← h₂.count, ← h₃.good, ← h₃.count, ← h)

        module _ {r₄ : Result ℕ Fault} {m : ℕ} (e₄ : r₄ ≡ Ok m) (c₄ : Switches p g n r₄) where
          -- With all four read, only bytes after the switches can be wrong.
          last : network_fault limits s ≡ trailing_fault s (2 + 2 * p + 2 + 6 * g + 2 + 2 * n + 2 + 8 * m)
          unfolding network_fault
          last =
              let h₁ = passed _ _ _ _ _ e₁ c₁ in
              let h₂ = passed _ _ _ _ _ e₂ c₂ in
              let h₃ = passed _ _ _ _ _ e₃ c₃ in
              let h₄ = passed _ _ _ _ _ e₄ c₄ in
              rw (← h₁.good, ← h₁.count, ← h₂.good, ← h₂.count, ← h₃.good, ← h₃.count, ← h₄.good, ← h₄.count)

          pub file_trails :
              2 + 2 * p + 2 + 6 * g + 2 + 2 * n + 2 + 8 * m < length s →
              checked_of (Err (faults.Trailing (2 + 2 * p + 2 + 6 * g + 2 + 2 * n + 2 + 8 * m))) ≡ network_answer limits s
          file_trails h = rw (last, ← trailing _ _ h)

          pub file_fine :
              length s ≤ 2 + 2 * p + 2 + 6 * g + 2 + 2 * n + 2 + 8 * m →
              checked_of (Ok (record {
                variables = p;
                givens = g;
                vertices = n;
                switches = m;
                givens_at = 2 + 2 * p;
                vertices_at = 2 + 2 * p + 2 + 6 * g;
                switches_at = 2 + 2 * p + 2 + 6 * g + 2 + 2 * n;
              })) ≡ network_answer limits s
          file_fine h =
              let h₁ = passed _ _ _ _ _ e₁ c₁ in
              let h₂ = passed _ _ _ _ _ e₂ c₂ in
              let h₃ = passed _ _ _ _ _ e₃ c₃ in
              let h₄ = passed _ _ _ _ _ e₄ c₄ in
              rw (last, ← no_trailing _ _ h, ← h₁.count, ← h₂.count, ← h₃.count, ← h₄.count)
