-- What a call may rely on once checks 1 to 5 have passed.
use Rattle.std.specs.Prelude.{◌≡◌, true}
use Rattle.graph.specs.Graph.{Graph}
use Rattle.graph.specs.Checks.{vertices_ok, lists_ok, edges_ok, lengths_ok, connected}

-- checks 1 and 2
pub record Sized (g : Graph) : Type 0 where
  pub vertices : vertices_ok g.n ≡ true
  pub lists : lists_ok g ≡ true

-- checks 1 to 4
pub record WellFormed (g : Graph) : Type 0 where
  pub vertices : vertices_ok g.n ≡ true
  pub lists : lists_ok g ≡ true
  pub edges : edges_ok g ≡ true
  pub lengths : lengths_ok g ≡ true

-- checks 1 to 5
pub record Accepted (g : Graph) : Type 0 where
  pub vertices : vertices_ok g.n ≡ true
  pub lists : lists_ok g ≡ true
  pub edges : edges_ok g ≡ true
  pub lengths : lengths_ok g ≡ true
  pub connected : connected g ≡ true
