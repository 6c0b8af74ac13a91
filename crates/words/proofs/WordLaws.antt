-- The operations on words as the language has them: what the check takes from here to prove each of them.
use Rattle.words.proofs.BitLaws.{iand_is, ixor_is}
use Rattle.words.proofs.ShiftLaws.{ishl_is, ishr_is, ishl_past}

pub ruleset word_laws = (iand_is, ixor_is, ishl_is, ishr_is, ishl_past)
