-- What stands where in an image with its sections back to back.
use mathlib.Core.Path.{◌≡◌, refl, ap}
use mathlib.Core.Bool.{true, ◌||◌}
use mathlib.Core.List.{List, ◌++◌}
use Prim.Native.Nat.{ℕ, zero, suc, ◌+◌, ◌-◌, ◌*◌, ◌≤◌, ◌<◌}
use native.Mathlib.Numerals.{add-one}
use native.Mathlib.Omega.{arith}
use lib.Dec.{eqb, leb}
use lib.ListN.{length, length-append}
use borrow.Author.Tests.{le-leb}
use Rattle.arithmetic.specs.Sum.{sum}
use Rattle.arithmetic.specs.Table.{at, tab, appended}
use Rattle.arithmetic.proofs.Laws.Bools.{and-true, or_true_r}
use Rattle.arithmetic.proofs.Laws.Sum.{sum_ext, sum_step, sum_front}
use Rattle.arithmetic.proofs.Laws.Table.{length-tab}
use Rattle.arithmetic.proofs.Laws.Appended.{length-appended, appended_ext}
use Rattle.little_endian.specs.LittleEndian.{byte_of}
use Rattle.little_endian.proofs.Laws.Byte.{length_pieces}
use Rattle.little_endian.proofs.Laws.Holds.{Holds, holds_self, holds_at, holds_left, holds_right, holds-appended, holds_piece, one_held, two_held, four_held}
use Rattle.directory.specs.Directory.{end_in, pair_ok}
use Rattle.image.specs.Image.{vertex_count, edge_count, first_offset, offset, extent, section_ok}
use Rattle.packed_image.specs.Packed.{start, pair, header, packed}

pub length-pair : (c : ℕ) (long : ℕ → ℕ) (t : ℕ) → length (pair c long t) ≡ 8
length-pair c long t =
    omega (arith, length-append (tab 4 (byte_of (start c long t))) (tab 4 (byte_of (long t))), length-tab 4 (byte_of (start c long t)), length-tab 4 (byte_of (long t)))

module _ (n form m c : ℕ) (long : ℕ → ℕ) where
  pub length-header : length (header n form m c long) ≡ 4 + 8 * c
  unfolding header
  length-header =
      simp (length-append, length-tab 1 (byte_of n), length-tab 1 (byte_of form), length-tab 2 (byte_of m)) (omega (arith, length_pieces 8 (pair c long) (length-pair c long) c))

-- the lengths of the sections, and the sections, alone count
pub header_ext : (n form m c : ℕ) (f g : ℕ → ℕ) → ((t : ℕ) → t < c → f t ≡ g t) → header n form m c f ≡ header n form m c g
unfolding header
header_ext n form m c f g h =
    rw (appended_ext c (pair c f) (pair c g) (λ t l. rw (sum_ext t f g (λ i k. h i (omega arith)), h t l)))

pub packed_ext : (n form m c : ℕ) (f g : ℕ → List ℕ) → ((t : ℕ) → t < c → f t ≡ g t) → packed n form m c f ≡ packed n form m c g
unfolding packed
packed_ext n form m c f g h =
    rw (appended_ext c f g h, header_ext n form m c (λ t. length (f t)) (λ t. length (g t)) (λ t l. ap length (h t l)))

module _ (n form m c : ℕ) (f : ℕ → List ℕ) where
  abbrev long : ℕ → ℕ
  long t = length (f t)

  abbrev image : List ℕ
  image = packed n form m c f

  pub length-packed : length image ≡ start c long c
  unfolding packed
  length-packed =
      omega (arith, length-append (header n form m c long) (appended c f), length-header n form m c long, length-appended c f)

  -- the header and the sections
  headed : Holds image 0 (header n form m c long)
  unfolding packed
  headed = holds_left (header n form m c long) (appended c f) (holds_self image)

  pub section_held : (t : ℕ) → t < c → Holds image (start c long t) (f t)
  unfolding packed
  section_held t l =
      holds_at (omega (arith, length-header n form m c long))
      (holds-appended c f (holds_right (header n form m c long) (appended c f) (holds_self image)) t l)

  -- the header's numbers
  pub n_held : n < 256 → vertex_count image ≡ n
  unfolding header
  n_held h = one_held n (holds_left (tab 1 (byte_of n)) _ headed) h

  after_n : Holds image 1 (tab 1 (byte_of form) ++ (tab 2 (byte_of m) ++ appended c (pair c long)))
  unfolding header
  after_n = holds_at (omega (arith, length-tab 1 (byte_of n))) (holds_right (tab 1 (byte_of n)) _ headed)

  pub form_held : form < 256 → at image 1 ≡ form
  form_held h = one_held form (holds_left (tab 1 (byte_of form)) _ after_n) h

  after_form : Holds image 2 (tab 2 (byte_of m) ++ appended c (pair c long))
  after_form = holds_at (omega (arith, length-tab 1 (byte_of form))) (holds_right (tab 1 (byte_of form)) _ after_n)

  pub m_held : m < 65536 → edge_count image ≡ m
  m_held h = two_held m (holds_left (tab 2 (byte_of m)) _ after_form) h

  pair_held : (t : ℕ) → t < c → Holds image (4 + 8 * t) (pair c long t)
  pair_held t l =
      holds_at (omega (arith, length-tab 2 (byte_of m)))
      (holds_piece c 8 (pair c long) (length-pair c long) (holds_right (tab 2 (byte_of m)) _ after_form) t l)

  -- all places fit 32 bits
  module _ (fits : start c long c < 4294967296) (t : ℕ) (l : t < c) where
    ends_by : start c long (t + 1) ≤ start c long c
    ends_by = omega (arith, sum_front (t + 1) c long (omega arith))

    pub offset_held : offset image t ≡ start c long t
    offset_held =
        four_held (start c long t) (holds_left (tab 4 (byte_of (start c long t))) _ (pair_held t l))
        (omega (arith, ends_by, sum_step t long, fits))

    pub extent_held : extent image t ≡ long t
    extent_held =
        four_held (long t)
        (holds_at (omega (arith, length-tab 4 (byte_of (start c long t)))) (holds_right (tab 4 (byte_of (start c long t))) _ (pair_held t l)))
        (omega (arith, ends_by, sum_step t long, fits))

    pub end_held : end_in 4 image t ≡ start c long (t + 1)
    end_held = omega (arith, offset_held, extent_held, sum_step t long)

    pub end_within : end_in 4 image t ≤ length image
    end_within = omega (arith, end_held, ends_by, length-packed)

  module _ (fits : start c long c < 4294967296) where
    follows : (t : ℕ) → t < c → eqb t 0 || leb (end_in 4 image (t - 1)) (offset image t) ≡ true
    follows zero l = refl
    follows (suc t) l =
        let e = end_held fits t (omega arith) in
        let o = offset_held fits (suc t) l in
        let z : suc t - 1 ≡ t = omega arith in
        rw z (or_true_r (eqb (suc t) 0) _ (le-leb (end_in 4 image t) (offset image (suc t)) (omega (arith, e, o, ap (λ (x : ℕ). sum x long) (add-one t)))))

    -- check 12
    pub sections_packed : (t : ℕ) → t < c → first_offset image ≤ 4 + 8 * c → section_ok image t ≡ true
    unfolding pair_ok
    sections_packed t l h =
        and-true _ _ (le-leb (first_offset image) (offset image t) (omega (arith, offset_held fits t l)))
        (and-true _ _ (follows t l) (le-leb (end_in 4 image t) (length image) (end_within fits t l)))
