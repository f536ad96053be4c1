use Rattle.std.proofs.Common.{◌≡◌, ◌<◌, sym, ◌∙◌, arith}
use Rattle.arithmetic.proofs.Laws.Mask.{shl_one}
use Rattle.vertex_set.proofs.Laws.Words.{or_above, mask_none, mask_under, mask_step}
use Rattle.vertex_set.proofs.words.word_of.Goals as goal
use Rattle.vertex_set.proofs.words.word_of.Goals.{then-test, else-test}

pub loop-x-init : goal.loop-x-init
loop-x-init g c = λ f h. mask_none f

-- where the test holds the vertex is above all those of the word
pub loop-x-preserved : goal.loop-x-preserved
loop-x-preserved g c = λ f h.
    let e = c.loop-x.invariant f h in
    let told : f c.loop-x.x ≡ c.test.result = sym (h c.loop-x.x c.loop-x-test.true c.test.result c.test.ensures) in
    let x : c.loop-x.x < 64 = omega (arith, c.requires.small) in
    mask_step c.loop-x.x f c.loop-x.word _ e
    (elim c.if-test.branch [
      | then-test w ↦ w.word-is ∙ rw (shl_one c.loop-x.x x, or_above _ _ (mask_under _ _ _ e), told, w.if-test.true)
      | else-test w ↦ rw (told, w.if-test.false) (omega (arith, w.word-is))
    ])
