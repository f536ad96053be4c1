-- The steps of Dijkstra's method: a vertex of the frontier w with the least label, and the edges from it, relaxed.
use Rattle.std.specs.Prelude.{ℕ, ◌+◌, ◌*◌, ◌/◌, ◌^◌, ◌≤◌, ◌<◌, ◌≡◌, true, cond, ◌||◌, List, ltb, length}
use Rattle.std.specs.Int.Bits.{bit_or}
use Rattle.arithmetic.specs.Mask.{mask}
use Rattle.arithmetic.specs.Steps.Mask.{bit}
use Rattle.arithmetic.specs.Table.{at}
use Rattle.forward_star.specs.Steps.Linked.{tail, Linked}
use Rattle.path_labels.specs.Steps.Weight.{unreached}
use Rattle.path_labels.specs.Steps.Labels.{put}

-- w is a word of 64 bits
abbrev pub IsWord : ℕ → Type 0
IsWord w = w ≡ mask 64 (bit w)

-- x is in w, and no vertex of w has a lower label
pub record NearestOf (w : ℕ) (label : ℕ → ℕ) (x : ℕ) : Type 0 where
  pub inside : x < 64
  pub has : bit w x ≡ true
  pub least : (v : ℕ) → v < 64 → bit w v ≡ true → label x ≤ label v

-- the label of y is lowered to near, if that is less, and then y is in the frontier
pub record Lowered (y near w : ℕ) (labels : List ℕ) (w' : ℕ) (labels' : List ℕ) : Type 0 where
  pub label : labels' ≡ put (ltb near (at labels y)) labels y near
  pub word : w' ≡ cond (ltb near (at labels y)) (bit_or w (2 ^ y)) w

-- the arcs of some edges are linked by where they start, and x is a vertex with the label near
pub record CanRelax (a b lengths last before : List ℕ) (x near w : ℕ) (labels : List ℕ) : Type 0 where
  pub linked : Linked (tail a b) (2 * length a) last before
  pub few : length a ≤ 512
  pub both : length b ≡ length a
  pub lengths_long : length lengths ≡ length a
  pub ends : (e : ℕ) → e < length a → (at a e < 64) × (at b e < 64)
  pub short : (e : ℕ) → e < length a → at lengths e ≤ 65535
  pub here : x < 64
  pub low : near < unreached
  pub word : IsWord w
  pub long : 64 ≤ length labels

-- label l of v comes along an arc from x; what ends an arc starts it if the lists of ends are exchanged
pub record Along (a b lengths : List ℕ) (x near v l : ℕ) : Type 0 where
  pub number : ℕ
  pub here : number < 2 * length a
  pub starts : tail a b number ≡ x
  pub ends : tail b a number ≡ v
  pub label : l ≡ near + at lengths (number / 2)

-- the arcs from x with numbers from j on are relaxed: what is lowered comes along one of them, and is in the frontier
pub record Relaxed (a b lengths : List ℕ) (x near w : ℕ) (labels : List ℕ) (j w' : ℕ) (labels' : List ℕ) : Type 0 where
  pub size : length labels' ≡ length labels
  pub word : IsWord w'
  pub lower : (v : ℕ) → at labels' v ≤ at labels v
  pub done : (i : ℕ) → j ≤ i → i < 2 * length a → tail a b i ≡ x → at labels' (tail b a i) ≤ near + at lengths (i / 2)
  pub along : (v : ℕ) → at labels' v < at labels v → Along a b lengths x near v (at labels' v)
  pub grows : (v : ℕ) → v < 64 → bit w' v ≡ bit w v || ltb (at labels' v) (at labels v)
