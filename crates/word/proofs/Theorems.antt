-- The displacement is exact at both ends and at the two bytes between them.
use Rattle.std.proofs.Common.{◌≡◌, pos, negsuc, refl}
use Rattle.word.specs.Words.{disp_of}

-- 80 (hexadecimal) is -128, FF is -1, 00 is 0, 7F is 127: `negsuc n` is -(n + 1)
pub displacement_ends : (disp_of 0x80 ≡ negsuc 127) × (disp_of 0xFF ≡ negsuc 0) × (disp_of 0x00 ≡ pos 0) × (disp_of 0x7F ≡ pos 127)
unfolding disp_of
displacement_ends = (refl, refl, refl, refl)
