-- What tests 8, 9 and 10 say, and that they hold together exactly of the spanning trees.
use Rattle.std.specs.Prelude.{◌≡◌, ℕ, ◌<◌}

-- ---- the row of each test

-- 8: root and parents are below n, the root's parent is the root, and no second vertex is its own parent
pub record Parents (n r : ℕ) (p : ℕ → ℕ) : Type 0 where
  pub root : r < n
  pub into : (x : ℕ) → x < n → p x < n
  pub stay : p r ≡ r
  pub alone : (x : ℕ) → x < n → p x ≡ x → x ≡ r
