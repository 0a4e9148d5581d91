-- The ends of a switch linked, and its joins.
use Rattle.std.specs.Prelude.{◌≡◌, refl, Bool, true, false, cond, ◌||◌, List, ℕ, ◌<◌, ◌≤◌, eqb, length, get_or, set}
use Rattle.std.proofs.Math.Path.{sym, ap, fun_ext}
use Rattle.std.proofs.Common.{◌∙◌, arith, get_or-set_same, get_or-set_other}
use Rattle.std.proofs.Math.Bool.{or-false}
use borrow.Author.Tests.{eq-eqb, ne_eqb}
use Rattle.std.proofs.Math.ListN.{length-set}
use Rattle.laws.specs.Tests.{by_same, same_turned}
use Rattle.links.specs.Switches.{pair, link, joins_at}
use Rattle.network.specs.Network.{side}
use Rattle.network.specs.declared.Switch.{Switch}
use Rattle.rows.specs.Row.{has, including, has_including}
use Rattle.rows.specs.Table.{links_in}

-- Row a has b too.
unfoldable pub linked_to : ℕ → ℕ → List ℕ → List ℕ
linked_to a b links = set links a (including (get_or links a 0) b)

-- The table once the ends of a switch are linked.
unfoldable pub connected : Switch → List ℕ → List ℕ
connected w links =
    cond (eqb w.first w.second) links (linked_to w.second w.first (linked_to w.first w.second links))

-- A switch has been linked.
pub record Connects (w : Switch) (links exit : List ℕ) (r : ℕ) : Type 0 where
  pub graph : links_in exit ≡ link w (links_in links)
  pub joins : r ≡ joins_at w (links_in links)
  pub most : r ≤ 2
  pub rows : exit ≡ connected w links
  pub long : length exit ≡ side

-- One link.
module _ (links : List ℕ) (a b : ℕ) (h : a < length links) where
  linked_has : (u v : ℕ) → links_in (linked_to a b links) u v ≡ links_in links u v || pair a b u v
  unfolding links_in linked_to
  linked_has u v =
      let row = including (get_or links a 0) b in
      by_same u a
      (λ e. rw (e, eq-eqb a a refl) (ap (λ (x : ℕ). has x v) (get_or-set_same links a row 0 h) ∙ has_including (get_or links a 0) b v
      ∙ ap (λ (t : Bool). has (get_or links a 0) v || t) (same_turned b v)))
      (λ d. rw (ne_eqb u a d) (ap (λ (x : ℕ). has x v) (get_or-set_other links a u row 0 d) ∙ sym (or-false (has (get_or links u 0) v))))

  linked_long : length (linked_to a b links) ≡ length links
  unfolding linked_to
  linked_long = length-set links a (including (get_or links a 0) b)

-- The ways out of `connect`.
module _ (w : Switch) (links : List ℕ) (long : length links ≡ side) where
  pub connects_loop : w.first ≡ w.second → Connects w links links 0
  unfolding link joins_at connected
  connects_loop e =
      record {
        graph = fun_ext (λ u. fun_ext (λ v. rw (eq-eqb _ _ e)));
        joins = rw (eq-eqb _ _ e);
        most = omega arith;
        rows = rw (eq-eqb _ _ e);
        long = long;
      }

  -- Both rows have been written, by the numbers of the ends.
  module _ (d : w.first ≡ w.second → ⊥) (hf : w.first < side) (hs : w.second < side) (a b : ℕ) (ea : a ≡ w.first) (eb : b ≡ w.second) (x y : ℕ)
      (ex : x ≡ including (get_or links a 0) b) (ey : y ≡ including (get_or (set links a x) b 0) a) (t : Bool)
      (test : t ≡ has (get_or links a 0) b) where
    half : List ℕ
    half = linked_to w.first w.second links

    half_long : length half ≡ side
    unfolding half
    half_long = linked_long links w.first w.second (omega arith) ∙ long

    exit : List ℕ
    exit = set (set links a x) b y

    linked : exit ≡ linked_to w.second w.first half
    unfolding exit half linked_to
    linked = rw (← ea, ← eb, ← ex, ← ey)

    written : exit ≡ connected w links
    unfolding half connected
    written = rw (ne_eqb _ _ d) linked

    graphs : links_in exit ≡ link w (links_in links)
    unfolding half link
    graphs = fun_ext (λ u. fun_ext (λ v.
        rw (linked, ne_eqb _ _ d)
        (linked_has half w.second w.first (omega (arith, half_long)) u v
        ∙ ap (λ (b : Bool). b || pair w.second w.first u v) (linked_has links w.first w.second (omega arith) u v))))

    longs : length exit ≡ side
    longs = rw linked (linked_long half w.second w.first (omega (arith, half_long)) ∙ half_long)

    connects : (r : ℕ) → r ≡ cond t 2 0 → r ≤ 2 → Connects w links exit r
    unfolding joins_at links_in
    connects r e most = record { graph = graphs; joins = e ∙ rw (ne_eqb _ _ d, ← ea, ← eb, ← test); most = most; rows = written; long = longs }

    pub connects_first : t ≡ false → Connects w links (set (set links a x) b y) 0
    unfolding exit
    connects_first e = connects 0 (rw e) (omega arith)

    pub connects_later : t ≡ true → Connects w links (set (set links a x) b y) 2
    unfolding exit
    connects_later e = connects 2 (rw e) (omega arith)
