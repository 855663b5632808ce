use borrow.Author.Rules.{rules}
use mathlib.Core.Path.{◌≡◌, refl}
use mathlib.Core.Bool.{Bool, true, false}
use Prim.Native.Nat.{ℕ, ◌<◌, ◌/◌, ◌^◌}
use Rattle.word.specs.Choose.{bits_if}
use Rattle.word.specs.Fields.{word_of, low_byte}
use Rattle.word.proofs.Computed.{agree2}
use Rattle.word.specs.Iter.{iter}
use Rattle.serial.specs.Receiver.{entered}
use Rattle.serial.proofs.receiving.shifted.Goals as goal

-- computed at every byte and every number of bits
all : (high : Bool) (k shift : ℕ) → k < 9 → shift < 256 → low_byte (word_of (bits_if high 0xFF) shift / 2 ^ k) ≡ iter k (entered high) shift
unfolding iter entered
all true = agree2 (λ k s. low_byte (word_of 0xFF s / 2 ^ k)) (λ k s. iter k (entered true) s) 9 256 refl
all false = agree2 (λ k s. low_byte (word_of 0 s / 2 ^ k)) (λ k s. iter k (entered false) s) 9 256 refl

pub returns : goal.returns
returns c =
    let a = c.args in
    let above : c.bits_if-above.result ≡ bits_if a.high 0xFF = c.bits_if-above.ensures.is in
    let both : c.word-both.result ≡ word_of c.bits_if-above.result a.shift = c.word-both.ensures in
    let low : c.low_byte.result ≡ low_byte (c.word-both.result / 2 ^ a.k) = c.low_byte.ensures in
    rw (low, both, above) (all a.high a.k a.shift (search rules) (search rules))
