-- The whole image as code writes it: the header, then each section in a part of the buffer.
use mathlib.Core.Path.{◌≡◌, refl, ◌∙◌}
use mathlib.Core.List.{List, [], ◌∷◌}
use Prim.Native.Nat.{ℕ, ◌+◌, ◌-◌, ◌*◌, ◌≤◌, ◌<◌}
use native.Mathlib.Omega.{arith}
use lib.ListN.{length}
use borrow.Rule.Slice.PartMut.{mid_of, put_mid}
use Rattle.arithmetic.specs.Sum.{sum}
use Rattle.arithmetic.specs.Table.{at, written}
use Rattle.little_endian.specs.Steps.Buffer.{placed}
use Rattle.image.specs.Contents.{Contents}
use Rattle.packed_image.specs.Packed.{start, header}
use Rattle.packed_image.proofs.Laws.Packed.{header_ext}
use Rattle.packed_image.proofs.Laws.Written.{packing_none, packing_more, packing_end}
use Rattle.image_writer.specs.ImageBytes.{section, image_bytes}
use Rattle.image_writer.specs.Steps.Size.{tree_size, image_size}
use Rattle.image_writer.proofs.Laws.Size.{edges_long, mu_long, nu_long, length_image, listed}

-- all places of an image fit 32 bits
pub starts_fit : (n m z : ℕ) → n ≤ 64 → m ≤ 512 → z ≤ 65 → start 4 (at (4 * m ∷ 4 * n ∷ 4 * n ∷ z ∷ [])) 4 < 4294967296
unfolding sum
starts_fit n m z hn hm hz = omega arith

module _ (c : Contents) (l : List ℕ) (room : image_size c.graph.n (length c.graph.lower) c.tree ≤ length l) where
  abbrev n : ℕ
  n = c.graph.n

  abbrev m : ℕ
  m = length c.graph.lower

  fits : length (image_bytes c) ≤ length l
  fits = rw (length_image c) room

  pub whole : (l₀ l₁ l₂ l₃ y₀ y₁ y₂ y₃ : List ℕ)
      → l₀ ≡ placed 0 (header n 0 m 4 (at (4 * m ∷ 4 * n ∷ 4 * n ∷ tree_size n c.tree ∷ []))) l
      → y₀ ≡ written 0 (section c 0) (mid_of 36 (length l₀ - 36) l₀) → l₁ ≡ put_mid 36 (length l₀ - 36) l₀ y₀
      → y₁ ≡ written 0 (section c 1) (mid_of (36 + 4 * m) (length l₁ - (36 + 4 * m)) l₁)
      → l₂ ≡ put_mid (36 + 4 * m) (length l₁ - (36 + 4 * m)) l₁ y₁
      → y₂ ≡ written 0 (section c 2) (mid_of (36 + 4 * m + 4 * n) (length l₂ - (36 + 4 * m + 4 * n)) l₂)
      → l₃ ≡ put_mid (36 + 4 * m + 4 * n) (length l₂ - (36 + 4 * m + 4 * n)) l₂ y₂
      → y₃ ≡ written 0 (section c 3) (mid_of (36 + 4 * m + 8 * n) (length l₃ - (36 + 4 * m + 8 * n)) l₃)
      → put_mid (36 + 4 * m + 8 * n) (length l₃ - (36 + 4 * m + 8 * n)) l₃ y₃ ≡ written 0 (image_bytes c) l
  unfolding image_bytes sum
  whole l₀ l₁ l₂ l₃ y₀ y₁ y₂ y₃ e₀ f₀ e₁ f₁ e₂ f₂ e₃ f₃ =
      let f = section c in
      let H = header_ext n 0 m 4 _ (λ t. length (f t)) (listed c (4 * m) (4 * n) (tree_size n c.tree) refl refl refl) in
      let p₀ = packing_none n 0 m 4 f l fits l₀ (rw H at e₀) in
      let p₁ = packing_more n 0 m 4 f l fits 0 36 l₀ y₀ (omega arith) refl p₀ f₀ in
      let p₂ = packing_more n 0 m 4 f l fits 1 _ l₁ y₁ (omega arith) (omega (arith, edges_long c)) (e₁ ∙ p₁) f₁ in
      let p₃ = packing_more n 0 m 4 f l fits 2 _ l₂ y₂ (omega arith) (omega (arith, edges_long c, mu_long c)) (e₂ ∙ p₂) f₂ in
      packing_end n 0 m 4 f l fits _
      (packing_more n 0 m 4 f l fits 3 _ l₃ y₃ (omega arith) (omega (arith, edges_long c, mu_long c, nu_long c)) (e₃ ∙ p₃) f₃)
