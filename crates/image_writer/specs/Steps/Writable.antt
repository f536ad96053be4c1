-- What the writer relies on after its checks.
use Rattle.std.specs.Prelude.{ℕ, ◌≤◌, ◌≡◌, true, length}
use Rattle.graph.specs.Checks.{vertices_ok}
use Rattle.image.specs.Contents.{Contents}
use Rattle.image_sections.specs.Held.{at_most}
use Rattle.image_writer.specs.Steps.Size.{image_size}

-- contents that sections can hold, and a buffer with room for so many bytes
pub record Writable (c : Contents) (room : ℕ) : Type 0 where
  pub vertices : vertices_ok c.graph.n ≡ true
  pub few : c.graph.n ≤ 64
  pub edges : length c.graph.lower ≤ 512
  pub upper : length c.graph.upper ≡ length c.graph.lower
  pub lengths : length c.graph.lengths ≡ length c.graph.lower
  pub mu : length c.mu ≡ c.graph.n
  pub nu : length c.nu ≡ c.graph.n
  pub parents : c.tree ≡ true → length c.parents ≡ c.graph.n
  pub fits : image_size c.graph.n (length c.graph.lower) c.tree ≤ room
  pub lower_held : at_most 255 c.graph.lower ≡ true
  pub upper_held : at_most 255 c.graph.upper ≡ true
  pub lengths_held : at_most 65535 c.graph.lengths ≡ true
  pub mu_held : at_most 4294967295 c.mu ≡ true
  pub nu_held : at_most 4294967295 c.nu ≡ true
  pub root_held : c.tree ≡ true → c.root ≤ 255
  pub parents_are_held : c.tree ≡ true → at_most 255 c.parents ≡ true
