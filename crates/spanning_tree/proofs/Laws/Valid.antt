-- What a tree by value gives of a vertex, by whether it is valid there, and the parents that it holds.
use mathlib.Core.Path.{◌≡◌, refl, sym, ap, ◌∙◌}
use mathlib.Core.Bool.{Bool, true, false, and-false, ◌&&◌}
use mathlib.Core.List.{List, [], ◌∷◌, ◌++◌}
use Prim.Native.Nat.{ℕ, zero, suc, ◌+◌, ◌-◌, min, ◌≤◌, ◌<◌}
use native.Mathlib.Omega.{arith}
use lib.Dec.{eqb, ltb}
use lib.ListN.{length, take, drop, get_or-eq_default}
use borrow.Author.Tests.{lt-ltb, le-ltb, le-leb, lt-leb, eqb-true, ltb-true}
use Rattle.arithmetic.specs.Sum.{pick}
use Rattle.arithmetic.specs.Table.{at, tab}
use Rattle.arithmetic.proofs.Laws.Bools.{case<, and_l, and_r}
use Rattle.arithmetic.proofs.Laws.Sum.{pick-zero}
use Rattle.arithmetic.proofs.Laws.Table.{tab_ext, tab_rest}
use Rattle.arithmetic.proofs.Laws.Slices.{take_tab}
use Rattle.rooted_tree.specs.Steps.Rooted.{Rooted}
use Rattle.graph.specs.Checks.{vertices_ok}
use Rattle.graph.proofs.Laws.Accepted.{vertices_in}
use Rattle.tree_checks.specs.Checks.{parents_ok}
use Rattle.tree_checks.proofs.Laws.TreeTests.{tests_rooted}
use Rattle.spanning_tree.specs.TreeValue.{parents_held}
use Rattle.spanning_tree.specs.Tree.{valid}

-- what a tree that is valid at v keeps to
pub record Valid (n r : ℕ) (ps : List ℕ) (v : ℕ) : Type 0 where
  pub vertex : v < n
  pub few : n ≤ 64
  pub tree : Rooted n r (at ps)

pub valid_say : (n r : ℕ) (ps : List ℕ) (v : ℕ) → valid n r ps v ≡ true → Valid n r ps v
unfolding valid
valid_say n r ps v h =
    let tail = and_r (ltb v n) _ h in
    let rest = and_r (vertices_ok n) _ tail in
    record {
      vertex = ltb-true v n (and_l (ltb v n) _ h);
      few = (vertices_in n (and_l (vertices_ok n) _ tail)).1;
      tree = tests_rooted n r (at ps) (and_l (parents_ok n r (at ps)) _ rest) (and_r (parents_ok n r (at ps)) _ rest);
    }

-- check 1, where there is a vertex v
pub few_vertices : (n v : ℕ) → v < n → n ≤ 64 → vertices_ok n ≡ true
unfolding vertices_ok
few_vertices n v h k = rw (lt-ltb 0 n (omega arith), le-leb n 64 k)

pub many_vertices : (n : ℕ) → 64 < n → vertices_ok n ≡ false
unfolding vertices_ok
many_vertices n h = rw (lt-leb n 64 h, and-false)

-- ---- the parents that a tree holds

-- a list has zeros alone
abbrev pub zeroed : List ℕ → Bool
zeroed [] = true
zeroed (x ∷ l) = eqb x 0 && zeroed l

zeros_at : (l : List ℕ) → zeroed l ≡ true → (y : ℕ) → at l y ≡ 0
zeros_at [] h y = refl
zeros_at (x ∷ l) h zero = eqb-true x 0 (and_l (eqb x 0) (zeroed l) h)
zeros_at (x ∷ l) h (suc y) = zeros_at l (and_r (eqb x 0) (zeroed l) h) y

-- the first `count` parents of the list are held
front_held : (n count : ℕ) (ps : List ℕ) → count ≤ n → count ≤ length ps → take count ps ≡ tab count (λ y. pick (ltb y n) (at ps y))
front_held n count ps low room =
    take_tab count ps room ∙ tab_ext count (at ps) (λ y. pick (ltb y n) (at ps y)) (λ y l. rw (lt-ltb y n (omega arith)))

-- of a list of 64 zeros the first `count` places are the list's, and the others stay
pub held_all : (n count : ℕ) (ps zeros front : List ℕ) → count ≡ min (min n 64) (length ps) → length zeros ≡ 64
    → zeroed zeros ≡ true → front ≡ take count ps → front ++ drop count zeros ≡ parents_held n ps
held_all n count ps zeros front c z none e =
    let all : count + (64 - count) ≡ 64 = omega arith in
    ap (λ (l : List ℕ). l ++ drop count zeros) (e ∙ front_held n count ps (omega arith) (omega arith))
    ∙ tab_rest (λ y. pick (ltb y n) (at ps y)) zeros count (64 - count) (omega arith) (λ y l k. zeros_at zeros none y ∙ past y l (omega arith))
    ∙ ap (λ (k : ℕ). tab k (λ y. pick (ltb y n) (at ps y))) all
  where
    -- a place from `count` on is past the vertices, past the tree or past the list
    past : (y : ℕ) → count ≤ y → y < 64 → 0 ≡ pick (ltb y n) (at ps y)
    past y l k =
        case< y n
        (λ h. sym (ap (pick (ltb y n)) (get_or-eq_default ps 0 (omega arith)) ∙ pick-zero (ltb y n)))
        (λ h. rw (le-ltb y n h))
