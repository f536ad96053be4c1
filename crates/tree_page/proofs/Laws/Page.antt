-- The page of a given tree: its figures fit, every vertex has one line, and how the call ends.
use Prim.Native.Nat.{ℕ, ◌*◌, ◌/◌, ◌^◌, ◌≤◌, ◌<◌}
use mathlib.Core.Path.{◌≡◌, refl, sym, ap, ◌∙◌}
use mathlib.Core.Bool.{true}
use mathlib.Core.List.{List, ◌++◌}
use native.Mathlib.Nat.{mul-le-mul_right}
use native.Mathlib.Omega.{arith}
use lib.Dec.{leb}
use lib.IntN.{ℤ, pos, negsuc, nat_abs}
use lib.ListN.{length, take, drop}
use lib.Signed.{mag}
use borrow.Author.Tests.{leb-true, le-leb}
use Rattle.arithmetic.specs.Table.{at, written}
use Rattle.arithmetic.proofs.Laws.Bools.{both}
use Rattle.arithmetic.proofs.Laws.Table.{front_at, front_length, result_refused, written_refused}
use Rattle.rooted_tree.specs.Chain.{depth}
use Rattle.rooted_tree.specs.Steps.Rooted.{Rooted}
use Rattle.rooted_tree.proofs.Laws.Rooted.{depth-lt}
use Rattle.graph.specs.Graph.{Graph, graph}
use Rattle.graph.proofs.Laws.Accepted.{vertices_in}
use Rattle.graph.proofs.Laws.Edge.{edge_length_most}
use Rattle.tree_checks.proofs.Laws.TreeTests.{spanning_rooted}
use Rattle.spanning_tree.specs.TreeValue.{parents_held}
use Rattle.given_tree.specs.Given.{Given}
use Rattle.given_tree.specs.Steps.Given.{GivenChecked}
use Rattle.given_tree.proofs.Laws.Given.{GivenAccepted, given-passed}
use Rattle.tree_figures.specs.Steps.Tables.{LengthsTo}
use Rattle.tree_figures.proofs.Laws.Figure.{imbalance_most, potential_most}
use Rattle.tree_evaluation.specs.Steps.EvaluateTree.{Weighted}
use Rattle.tree_evaluation.proofs.Laws.GivenTree.{given_weighted, given_holds}
use Rattle.decimal_text.specs.Decimal.{signed_decimal}
use Rattle.decimal_text.proofs.Laws.Signed.{length-signed}
use Rattle.page_line.specs.Line.{spaces, two_digits, up_to, right_aligned}
use Rattle.page_line.proofs.Laws.Line.{vertex_columns, figure_columns, length-line}
use Rattle.preorder.specs.Preorder.{tree_order, line_of, page}
use Rattle.preorder.specs.Steps.Printing.{figure, Printable}
use Rattle.preorder.proofs.Laws.Vertices.{every_vertex_once}
use Rattle.preorder.proofs.Laws.Printing.{page_ext, page-length, line_at}
use Rattle.tree_page.specs.Page.{page_refusal, imbalance_of, potential_of, tree_page, PageWritten}
use Rattle.tree_page.specs.Steps.Figures.{FiguresFound}

mag-le : (z : ℤ) → mag z ≤ nat_abs z
mag-le (pos k) = omega arith
mag-le (negsuc k) = omega arith

-- n lines fit exactly if 96 × n bytes do
pub room_is : (n long : ℕ) → leb n (long / 96) ≡ leb (96 * n) long
room_is n long =
    both (leb n (long / 96)) (leb (96 * n) long)
    (λ e. le-leb (96 * n) long (omega (arith, leb-true n (long / 96) e)))
    (λ e. le-leb n (long / 96) (omega (arith, leb-true (96 * n) long e)))

-- ---- the figures of an accepted tree
module _ {g : Graph} {w : Given} (accepted : GivenAccepted g w) where
  few : g.n ≤ 64
  few = (vertices_in g.n accepted.problem.accepted.vertices).1

  rooted : Rooted g.n w.root (at w.parents)
  rooted = spanning_rooted g w.root (at w.parents) accepted.problem.accepted.edges accepted.tree

  imbalance_bound : (x : ℕ) → nat_abs (imbalance_of g w x) ≤ 2 ^ 24
  imbalance_bound x =
      imbalance_most g.n (at w.parents) (at w.mu) (at w.nu) x (2 ^ 24) accepted.problem.before.light accepted.problem.after.light

  potential_bound : (x : ℕ) → nat_abs (potential_of g w x) ≤ 63 * 65535
  potential_bound x =
      omega (
        arith,
        potential_most g w.root (at w.parents) (at w.mu) (at w.nu) x 65535 rooted.root (λ y _.
            edge_length_most g accepted.problem.accepted.edges accepted.problem.accepted.lengths y (at w.parents y)),
        mul-le-mul_right 65535 few,
      )

  level_bound : (x : ℕ) → x < g.n → depth (at w.parents) w.root g.n x ≤ 63
  level_bound x l = omega (arith, depth-lt rooted x l, few)

  imbalance-short : (x : ℕ) → length (signed_decimal (imbalance_of g w x)) ≤ 11
  imbalance-short x = omega (arith, length-signed 7 (imbalance_of g w x) (omega (arith, imbalance_bound x)))

  potential-short : (x : ℕ) → length (signed_decimal (potential_of g w x)) ≤ 11
  potential-short x = omega (arith, length-signed 7 (potential_of g w x) (omega (arith, potential_bound x)))

-- ---- theorems on the page of an accepted tree
module _ (g : Graph) (w : Given) (buffer : List ℕ) (passed : page_refusal g w buffer ≡ 0) where
  accepted : GivenAccepted g w
  unfolding page_refusal
  accepted = (given-passed g w _ passed).0

  -- everything fits its columns
  pub fits_columns : (v : ℕ) → v < g.n
      → (depth (at w.parents) w.root g.n v ≤ 63)
      × (nat_abs (imbalance_of g w v) ≤ 2 ^ 24)
      × (nat_abs (potential_of g w v) ≤ 63 * 65535)
      × (length (up_to 68 (spaces (depth (at w.parents) w.root g.n v) ++ two_digits v)) ≡ 68)
      × (length (right_aligned 11 (signed_decimal (imbalance_of g w v))) ≡ 11)
      × (length (right_aligned 11 (signed_decimal (potential_of g w v))) ≡ 11)
  fits_columns v l =
      let h = level_bound accepted v l in (
        h,
        imbalance_bound accepted v,
        potential_bound accepted v,
        vertex_columns _ v (omega arith),
        figure_columns (imbalance_of g w v) (imbalance-short accepted v),
        figure_columns (potential_of g w v) (potential-short accepted v),
      )

  fits : (x : ℕ) → x < g.n → length (line_of g.n w.root (at w.parents) (imbalance_of g w) (potential_of g w) x) ≡ 96
  fits x l = length-line _ x _ _ (omega (arith, level_bound accepted x l)) (imbalance-short accepted x) (potential-short accepted x)

  -- the page has the bytes that the call returns
  pub page_bytes : length (tree_page g w) ≡ 96 * g.n
  page_bytes = page-length (rooted accepted) (imbalance_of g w) (potential_of g w) fits

  -- "Every vertex of the tree has its line, none has two": line k is that of v, and v stands in the order nowhere else
  pub one_line : (v : ℕ) → v < g.n
      → (k : ℕ) × (k < g.n)
      × (take 96 (drop (96 * k) (tree_page g w)) ≡ line_of g.n w.root (at w.parents) (imbalance_of g w) (potential_of g w) v)
      × ((j : ℕ) → j < g.n → at (tree_order g.n w.root (at w.parents)) j ≡ v → j ≡ k)
  one_line v l =
      let once = every_vertex_once (rooted accepted) v l in (
        once.0,
        once.1,
        line_at (rooted accepted) (imbalance_of g w) (potential_of g w) fits once.0 once.1
            ∙ ap (line_of g.n w.root (at w.parents) (imbalance_of g w) (potential_of g w)) once.2,
        once.3,
      )

-- ---- how the call ends
pub page_refused : {g : Graph} {w : Given} (buffer : List ℕ) {k : ℕ} {above above' first edge : List ℕ}
    → GivenChecked g w (leb (96 * g.n) (length buffer)) k above above' first edge → (k ≡ 0 → ⊥) → PageWritten g w buffer k 0 buffer
unfolding page_refusal
page_refused buffer {k} checked d = record { refusal = checked.number; length_is = result_refused k _ d; bytes_are = written_refused k _ buffer d }

-- nothing is refused: the tree by value
module _ {g : Graph} {w : Given} (buffer : List ℕ) {above above' first edge : List ℕ}
    (checked : GivenChecked g w (leb (96 * g.n) (length buffer)) 0 above above' first edge)
    {n r : ℕ} {parents : List ℕ} (held : (n ≡ g.n) × ((r ≡ w.root) × (parents ≡ parents_held g.n w.parents))) where
  given-all : GivenAccepted g w × (leb (96 * g.n) (length buffer) ≡ true)
  given-all = given-passed g w _ (sym checked.number)

  pub page-room : 96 * g.n ≤ length buffer
  page-room = leb-true _ _ given-all.1

  pub figures_asked : 64 ≤ length above → {imbalances : List ℤ} {room : ℕ} → 64 ≤ length imbalances → 64 ≤ room
      → Weighted n r parents above' w.mu w.nu imbalances × (n ≤ room)
  figures_asked long {imbalances} i u = (
    given_weighted given-all.0 (checked.lengths refl) held long {imbalances = imbalances} (omega (arith, few given-all.0)),
    omega (arith, few given-all.0, held.0),
  )

  module _ {imbalances potentials imbalances' potentials' : List ℤ} (i : 64 ≤ length imbalances) (u : 64 ≤ length potentials)
      (promise : LengthsTo (graph n g.lower g.upper g.lengths) r (at parents) (at above')
      → FiguresFound (graph n g.lower g.upper g.lengths) r (at parents) (at w.mu) (at w.nu) imbalances potentials imbalances' potentials') where
    found : FiguresFound g w.root (at w.parents) (at w.mu) (at w.nu) imbalances potentials imbalances' potentials'
    found =
        given_holds given-all.0 (checked.lengths refl) held
        (λ h s p. FiguresFound h s p (at w.mu) (at w.nu) imbalances potentials imbalances' potentials') promise

    imbalance-at : (x : ℕ) → x < g.n → figure imbalances' x ≡ imbalance_of g w x
    imbalance-at x l = rw found.imbalance_is (front_at g.n _ imbalances (pos 0) x l)

    potential-at : (x : ℕ) → x < g.n → figure potentials' x ≡ potential_of g w x
    potential-at x l = rw found.potential_is (front_at g.n _ potentials (pos 0) x l)

    pub printable : Printable g.n w.root w.parents imbalances' potentials'
    printable =
        let a = given-all.0 in
        record {
          few = few a;
          tree = rooted a;
          long_parents = omega (arith, a.long_parents);
          long_imbalances = omega (arith, few a, ap length found.imbalance_is, front_length g.n (imbalance_of g w) imbalances (omega (arith, few a)));
          long_potentials = omega (arith, few a, ap length found.potential_is, front_length g.n (potential_of g w) potentials (omega (arith, few a)));
          imbalances_fit = λ x l. rw (imbalance-at x l) (omega (arith, mag-le (imbalance_of g w x), imbalance_bound a x));
          potentials_fit = λ x l. rw (potential-at x l) (omega (arith, mag-le (potential_of g w x), potential_bound a x));
        }

    pub page_done : {filled : ℕ} {buffer' : List ℕ} → filled ≡ 96 * g.n
        → buffer' ≡ written 0 (page g.n w.root (at w.parents) (figure imbalances') (figure potentials')) buffer
        → PageWritten g w buffer 0 filled buffer'
    unfolding page_refusal
    page_done e f = record {
      refusal = checked.number;
      length_is = e;
      bytes_are = f ∙ ap (λ (t : List ℕ). written 0 t buffer) (page_ext (rooted given-all.0) imbalance-at potential-at);
    }
