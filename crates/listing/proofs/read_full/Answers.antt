-- `listing::read_full` meets its contract: what a turn reads comes right after what was read before.
use Rattle.std.specs.Prelude.{◌≡◌, ℕ, ◌+◌, ◌-◌, ◌≤◌, List, ◌++◌, length, take, None, Some}
use Rattle.std.proofs.Common.{ap, sym, ◌∙◌, arith, append_assoc, rules}
use Rattle.std.proofs.Math.Seq.{take-append-add}
use Rattle.std.proofs.lemmas.List.{length-take-le, take-append-le}
use Rattle.std.specs.Io.KnownBytes.{Consumes}
use Rattle.std.specs.declared.option.Option.{Option}
use borrow.Rule.Slice.PartMut.{put_mid, post_of}
use Rattle.listing.proofs.read_full.Goals as goal

-- Bytes that a reader gives in two parts.
consumes_both : (old mid new : Option (List ℕ)) (xs ys : List ℕ) → Consumes old mid xs → Consumes mid new ys → Consumes old new (xs ++ ys)
consumes_both None mid new xs ys a b = tt
consumes_both (Some os) None new xs ys a b = absurd a
consumes_both (Some os) (Some ms) None xs ys a b = absurd b
consumes_both (Some os) (Some ms) (Some ns) xs ys a b = a ∙ ap (λ (zs : List ℕ). xs ++ zs) b ∙ sym (append_assoc xs ys ns)

-- The front of a buffer of which a part was written.
take_both : (d k n : ℕ) (xs ys : List ℕ) → d ≤ length xs → n ≤ length ys → take (d + n) (put_mid d k xs ys) ≡ take d xs ++ take n ys
take_both d k n xs ys h g =
    let l : length (take d xs) ≡ d = length-take-le d xs h in
    let e = take-append-add (take d xs) (ys ++ post_of d k xs) n in
    (rw l at e) ∙ ap (λ (zs : List ℕ). take d xs ++ zs) (take-append-le n ys (post_of d k xs) g)

pub loop-done-preserved : goal.loop-done-preserved
loop-done-preserved g c =
    let d = c.loop-done.done in
    let n = c.in_ok-n.n in
    let inside : d ≤ length c.loop-done.buf = c.loop-done.invariant.within in
    let given : n ≤ length c.read.new.buf = omega (arith, c.in_ok-n.ensures.bound) in
    record {
      within = search rules;
      bytes =
          rw (take_both d (length c.loop-done.buf - d) n c.loop-done.buf c.read.new.buf inside given)
          (consumes_both _ _ _ _ _ c.loop-done.invariant.bytes c.in_ok-n.ensures.bytes.0);
    }
