-- What tests 8, 9 and 10 say, and that they hold together exactly of the spanning trees.
use mathlib.Core.Path.{◌≡◌, refl, sym, ap}
use mathlib.Core.Bool.{true, false, not, ◌||◌}
use Prim.Native.Nat.{ℕ, ◌<◌}
use lib.Dec.{eqb, ltb}
use borrow.Author.Tests.{eqb-true, eq-eqb, ne_eqb, ltb-true, lt-ltb}
use Rattle.arithmetic.specs.Bools.{all}
use Rattle.arithmetic.specs.Refusal.{refusal}
use Rattle.arithmetic.proofs.Laws.Bools.{case≡, clash, is_false, and_l, and_r, and-true, or_elim, or_right, or-true_l, or_true_r, all-at, all_intro}
use Rattle.arithmetic.proofs.Laws.Refusal.{test_of, numbered, every_holds}
use Rattle.rooted_tree.specs.Chain.{climb}
use Rattle.rooted_tree.specs.Steps.Rooted.{Rooted}
use Rattle.rooted_tree.proofs.Laws.Rooted.{chains_rooted}
use Rattle.graph.specs.Graph.{Graph, joined}
use Rattle.graph.specs.SpanningTree.{SpanningTree}
use Rattle.graph.specs.Checks.{edges_ok}
use Rattle.graph.proofs.Laws.Edge.{joined_in}
use Rattle.tree_checks.specs.Checks.{parents_ok, tree_edges_ok, chains_ok, tree_checks}
use Rattle.tree_checks.specs.Steps.TreeTests.{Parents}

module _ (n r : ℕ) (p : ℕ → ℕ) where
  pub parents_say : parents_ok n r p ≡ true → Parents n r p
  unfolding parents_ok
  parents_say h =
      let tail = and_r (ltb r n) _ h in
      let rest = and_r (all n (λ x. ltb (p x) n)) _ tail in
      record {
        root = ltb-true r n (and_l (ltb r n) _ h);
        into = λ x l. ltb-true (p x) n (all-at n (λ x. ltb (p x) n) (and_l (all n (λ x. ltb (p x) n)) _ tail) x l);
        stay = eqb-true (p r) r (and_l (eqb (p r) r) _ rest);
        alone = λ x l e.
            or_elim (eqb x r) (not (eqb (p x) x)) (all-at n (λ x. eqb x r || not (eqb (p x) x)) (and_r (eqb (p r) r) _ rest) x l)
            (λ t. eqb-true x r t)
            (λ f. clash f (ap not (eq-eqb (p x) x e)));
      }

  pub parents_hold : Parents n r p → parents_ok n r p ≡ true
  unfolding parents_ok
  parents_hold t =
      and-true _ _ (lt-ltb r n t.root)
      (and-true _ _ (all_intro n (λ x. ltb (p x) n) (λ x l. lt-ltb (p x) n (t.into x l)))
      (and-true _ _ (eq-eqb (p r) r t.stay)
      (all_intro n (λ x. eqb x r || not (eqb (p x) x)) (λ x l. case≡ x r
      (λ e. or-true_l _ _ (eq-eqb x r e))
      (λ d. or_true_r (eqb x r) _ (ap not (ne_eqb (p x) x (λ e. d (t.alone x l e)))))))))

  pub parents_fail : (Parents n r p → ⊥) → false ≡ parents_ok n r p
  parents_fail f = sym (is_false _ (λ h. f (parents_say h)))

  -- 10: every chain of parents reaches the root, by n steps
  pub chains_say : chains_ok n r p ≡ true → (x : ℕ) → x < n → climb p n x ≡ r
  unfolding chains_ok
  chains_say h x l = eqb-true (climb p n x) r (all-at n (λ x. eqb (climb p n x) r) h x l)

  pub chains_hold : ((x : ℕ) → x < n → climb p n x ≡ r) → chains_ok n r p ≡ true
  unfolding chains_ok
  chains_hold h = all_intro n (λ x. eqb (climb p n x) r) (λ x l. eq-eqb (climb p n x) r (h x l))

  -- tests 8 and 10 make a rooted tree
  pub tests_rooted : parents_ok n r p ≡ true → chains_ok n r p ≡ true → Rooted n r p
  tests_rooted h k =
      let t = parents_say h in
      record { root = t.root; stay = t.stay; into = t.into; up = chains_say k }

-- 9: each vertex but the root shares an edge with its parent
module _ (g : Graph) (r : ℕ) (p : ℕ → ℕ) where
  pub edges_say : tree_edges_ok g r p ≡ true → (x : ℕ) → x < g.n → (x ≡ r → ⊥) → joined g x (p x) ≡ true
  unfolding tree_edges_ok
  edges_say h x l d = or_right (eqb x r) _ (all-at g.n (λ x. eqb x r || joined g x (p x)) h x l) (ne_eqb x r d)

  pub edges_hold : ((x : ℕ) → x < g.n → (x ≡ r → ⊥) → joined g x (p x) ≡ true) → tree_edges_ok g r p ≡ true
  unfolding tree_edges_ok
  edges_hold h =
      all_intro g.n (λ x. eqb x r || joined g x (p x)) (λ x l. case≡ x r
      (λ e. or-true_l _ _ (eq-eqb x r e))
      (λ d. or_true_r (eqb x r) _ (h x l d)))

-- ---- spanning trees
module _ (g : Graph) (r : ℕ) (p : ℕ → ℕ) (h : edges_ok g ≡ true) (t : SpanningTree g r p) where
  pub spanning_into : (x : ℕ) → x < g.n → p x < g.n
  spanning_into x l =
      case≡ x r (λ e. rw (e, t.stay) t.root) (λ d. (joined_in g h x (p x) (t.edge x l d)).1.0)

  -- a spanning tree is a rooted tree on the graph's vertices
  pub spanning_rooted : Rooted g.n r p
  spanning_rooted = chains_rooted g.n r p t.root t.stay spanning_into t.chain

  -- tests 8 to 10 accept it
  pub spanning_accepted : refusal (tree_checks g r p) ≡ 0
  unfolding refusal tree_checks
  spanning_accepted =
      rw (
        parents_hold g.n r p (record {
          root = t.root;
          into = spanning_into;
          stay = t.stay;
          alone = λ x l e. case≡ x r (λ q. q) (λ d. absurd ((joined_in g h x (p x) (t.edge x l d)).1.1 (sym e)));
        }),
        edges_hold g r p t.edge,
        chains_hold g.n r p spanning_rooted.up,
      )

-- what tests 8 to 10 accept is a spanning tree
module _ (g : Graph) (r : ℕ) (p : ℕ → ℕ) where
  pub tests_spanning : parents_ok g.n r p ≡ true → tree_edges_ok g r p ≡ true → chains_ok g.n r p ≡ true → SpanningTree g r p
  tests_spanning h k l =
      let t = parents_say g.n r p h in
      record { root = t.root; stay = t.stay; edge = edges_say g r p k; chain = λ x j. (g.n, chains_say g.n r p l x j) }

  pub accepted_spanning : refusal (tree_checks g r p) ≡ 0 → SpanningTree g r p
  unfolding tree_checks test_of numbered
  accepted_spanning h = let k = every_holds (tree_checks g r p) refl h in tests_spanning (k 8) (k 9) (k 10)
