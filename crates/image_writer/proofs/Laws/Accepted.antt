-- What the writer may rely on after its checks.
use mathlib.Core.Path.{◌≡◌, refl}
use mathlib.Core.Bool.{Bool, true, not, ◌||◌}
use mathlib.Core.List.{List}
use Prim.Native.Nat.{ℕ, ◌≤◌, ◌<◌}
use lib.Dec.{leb}
use lib.ListN.{length}
use borrow.Author.Tests.{eqb-true, leb-true}
use Rattle.arithmetic.specs.Table.{at}
use Rattle.arithmetic.proofs.Laws.Bools.{and_l, and_r, all-at}
use Rattle.arithmetic.proofs.Laws.Refusal.{test_of, numbered, every_holds}
use Rattle.graph.specs.Checks.{lists_ok, size_checks}
use Rattle.graph.proofs.Laws.Accepted.{vertices_in, lists_in}
use Rattle.image.specs.Contents.{Contents}
use Rattle.image_writer.specs.ImageBytes.{image_bytes}
use Rattle.image_writer.specs.Steps.Writable.{Writable}
use Rattle.image_sections.specs.Held.{at_most, tree_held}
use Rattle.image_writer.specs.WriteImage.{tables_ok, numbers_ok, write_checks, write_refusal}
use Rattle.image_writer.proofs.Laws.Size.{length_image}

-- the tree's part of a test, where there is a tree
marked : (t b : Bool) → not t || b ≡ true → t ≡ true → b ≡ true
marked t b h e = rw e at h

pub at-most : (k : ℕ) (l : List ℕ) → at_most k l ≡ true → (i : ℕ) → i < length l → at l i ≤ k
at-most k l h i b = leb-true (at l i) k (all-at (length l) (λ j. leb (at l j) k) h i b)

pub writable : (c : Contents) (room : ℕ) → write_refusal c room ≡ 0 → Writable c room
unfolding write_checks size_checks test_of numbered tables_ok numbers_ok
writable c room h =
    let k = every_holds (write_checks c room) refl h in
    let l = lists_in c.graph (and_l (lists_ok c.graph) _ (k 2)) in
    let tables = and_r (lists_ok c.graph) _ (k 2) in
    let numbers = k 13 in
    let tree : tree_held c.tree c.root c.parents ≡ true = search and_r in
    record {
      vertices = k 1;
      few = (vertices_in c.graph.n (k 1)).1;
      edges = l.0;
      upper = l.1.0;
      lengths = l.1.1;
      mu = search (eqb-true, and_l, and_r);
      nu = search (eqb-true, and_l, and_r);
      parents = search (eqb-true, marked, and_l, and_r);
      fits = let h : leb (length (image_bytes c)) room ≡ true = search (and_l, and_r) in rw (length_image c) at (leb-true (length (image_bytes c)) room h);
      lower_held = search (and_l, and_r);
      upper_held = search (and_l, and_r);
      lengths_held = search (and_l, and_r);
      mu_held = search (and_l, and_r);
      nu_held = search (and_l, and_r);
      root_held = λ e. leb-true c.root 255 (and_l (leb c.root 255) _ (marked c.tree _ tree e));
      parents_are_held = λ e. and_r (leb c.root 255) _ (marked c.tree _ tree e);
    }
