-- How the call over edge records ends, on plain values; the fields of a list of records as tables.
use mathlib.Core.Path.{◌≡◌, refl, sym, ap, ◌∙◌}
use mathlib.Core.Bool.{Bool, true, false, cond}
use mathlib.Core.List.{List, map}
use Prim.Native.Nat.{ℕ, suc, ◌+◌, ◌≤◌, ◌<◌}
use native.Mathlib.Omega.{arith}
use lib.ListN.{length, get_or, take, set, replicate, length-map, length-append, length-drop, length-replicate, get_or-map}
use lib.Seq.{take_at, ext_get_or}
use borrow.Author.Tests.{lt-leb}
use Rattle.distances.specs.declared.records.EdgeRecord.{EdgeRecord}
use Rattle.distances.specs.declared.records.Columns.{Columns}
use Rattle.arithmetic.specs.Table.{tab}
use Rattle.arithmetic.specs.Refusal.{refusal}
use Rattle.arithmetic.proofs.Laws.Table.{length-tab, tab-at, tab_none, tab_store}
use Rattle.graph.specs.Graph.{Graph, graph}
use Rattle.graph.specs.Checks.{vertices_ok, lists_fit, size_checks, edge_checks}
use Rattle.distances.specs.Distances.{distances_refusal, distances_table}
use Rattle.distances.specs.Records.{lower_of, upper_of, length_of, graph_of_records}
use Rattle.distances.specs.Steps.Records.{no_edge, column, columns_of}

-- ---- a field of the records
module _ (f : EdgeRecord → ℕ) (zeroed : f no_edge ≡ 0) (es : List EdgeRecord) where
  pub length-column : (m : ℕ) → m ≤ 512 → length (column f es m) ≡ 512
  length-column m h = rw (length-append, length-tab m, length-drop, length-replicate) (omega arith)

  pub column_none : replicate 512 0 ≡ column f es 0
  column_none = tab_none _ (replicate 512 0)

  pub column_more : (i : ℕ) → i < 512 → set (column f es i) i (f (get_or es i no_edge)) ≡ column f es (i + 1)
  column_more i h = tab_store i _ (replicate 512 0) _ _ (rw length-replicate h) refl refl

  tab-map : tab (length es) (λ i. f (get_or es i no_edge)) ≡ map f es
  tab-map =
      ext_get_or 0 _ _ (length-tab (length es) _ ∙ sym (length-map es f))
      (λ i h. let k : i < length es = rw (length-tab (length es) (λ i. f (get_or es i no_edge))) at h in
      tab-at (length es) _ 0 i k ∙ sym (get_or-map f es i no_edge) ∙ ap (λ (d : ℕ). get_or (map f es) i d) zeroed)

  column-all : take (length es) (column f es (length es)) ≡ map f es
  column-all = take_at (tab (length es) (λ i. f (get_or es i no_edge))) _ (length es) (length-tab (length es) _) ∙ tab-map

-- ---- the whole call
too_many : (n : ℕ) (es : List EdgeRecord) (out : List ℕ) → 512 < length es → distances_refusal (graph_of_records n es) out ≡ cond (vertices_ok n) 2 1
unfolding distances_refusal refusal size_checks edge_checks lists_fit
too_many n es out h = rw (length-map es lower_of, lt-leb (length es) 512 h)

as_lent : (g : Graph) (out : List ℕ) (k : ℕ) → distances_refusal g out ≡ suc k → out ≡ distances_table g out
unfolding distances_table
as_lent g out k e = rw e

module _ (n : ℕ) (es : List EdgeRecord) (out : List ℕ) where
  abbrev g : Graph
  g = graph_of_records n es

  -- more than 512 edges
  module _ (h : 512 < length es) (r : Bool) (e : r ≡ vertices_ok n) where
    pub refused_2 : r ≡ true → (2 ≡ distances_refusal g out) × (out ≡ distances_table g out)
    refused_2 t =
        let k : distances_refusal g out ≡ 2 = too_many n es out h ∙ rw (sym e ∙ t) in
        (sym k, as_lent g out 1 k)

    pub refused_1 : r ≡ false → (1 ≡ distances_refusal g out) × (out ≡ distances_table g out)
    refused_1 t =
        let k : distances_refusal g out ≡ 1 = too_many n es out h ∙ rw (sym e ∙ t) in
        (sym k, as_lent g out 0 k)

  -- the first places of the columns are the lists of the fields
  abbrev m : ℕ
  m = length es

  abbrev c : Columns
  c = columns_of es m

  pub of_columns : (r : ℕ) (out' : List ℕ)
      → (r ≡ distances_refusal (graph n (take m c.a) (take m c.b) (take m c.lengths)) out)
      × (out' ≡ distances_table (graph n (take m c.a) (take m c.b) (take m c.lengths)) out)
      → (r ≡ distances_refusal g out) × (out' ≡ distances_table g out)
  of_columns r out' d = rw (column-all lower_of refl es, column-all upper_of refl es, column-all length_of refl es) at d
