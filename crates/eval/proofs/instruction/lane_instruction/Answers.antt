-- Each kind stands as an instruction of its family, whose function runs it. Assumes nothing.
use mathlib.Core.Path.{refl}
use Rattle.code.specs.Families.{quads, shifts}
use Rattle.code.proofs.Families.{in_family, inserts_kind}
use Rattle.eval.proofs.OtherKinds.{past_15}
use Rattle.eval.proofs.Asked.{ins_starts, quads_asked, quads_ran, shifts_asked, shifts_ran, shuffle_asked, shuffle_ran, word_shift_asked, word_shift_ran, extract_asked, extract_ran, inserts_asked, inserts_ran}
use Rattle.eval.proofs.instruction.lane_instruction.Goals as goal

pub bounds-lent-at : goal.bounds-lent-at
bounds-lent-at c = search ins_starts

pub two_quads-requires : goal.two_quads-requires
two_quads-requires c =
    let w = quads_asked _ _ c.requires.ins_at (search (in_family quads 0x0f refl)) in
    record { at_in_bounds = w.0; at_bound = w.1.0; at_bound_2 = w.1.1.0; at_value = w.1.1.1 }

pub two_quads-requires-in-16 : goal.two_quads-requires-in-16
two_quads-requires-in-16 c =
    let w = quads_asked _ _ c.requires.ins_at (search (in_family quads 0x10 refl)) in
    record { at_in_bounds = w.0; at_bound = w.1.0; at_bound_2 = w.1.1.0; at_value = w.1.1.1 }

pub shift_words-requires : goal.shift_words-requires
shift_words-requires c =
    let w = shifts_asked _ _ c.requires.ins_at (search (in_family shifts 0x11 refl)) in
    record { at_in_bounds = w.0; at_bound = w.1.0; at_value = w.1.1 }

pub shift_words-requires-in-18 : goal.shift_words-requires-in-18
shift_words-requires-in-18 c =
    let w = shifts_asked _ _ c.requires.ins_at (search (in_family shifts 0x12 refl)) in
    record { at_in_bounds = w.0; at_bound = w.1.0; at_value = w.1.1 }

pub shuffle-requires : goal.shuffle-requires
shuffle-requires c =
    let w = shuffle_asked _ _ c.requires.ins_at (search) in
    record { at_in_bounds = w.0; at_bound = w.1.0; at_bound_2 = w.1.1 }

pub two_quads-requires-in-20 : goal.two_quads-requires-in-20
two_quads-requires-in-20 c =
    let w = quads_asked _ _ c.requires.ins_at (search (in_family quads 0x14 refl)) in
    record { at_in_bounds = w.0; at_bound = w.1.0; at_bound_2 = w.1.1.0; at_value = w.1.1.1 }

pub extract-requires : goal.extract-requires
extract-requires c =
    let asked = c.requires in let w = extract_asked _ _ asked.ins_at (search) in
    record { operands_from = w.0; at_bound = w.1; long = asked.long }

pub shift_by_word-requires : goal.shift_by_word-requires
shift_by_word-requires c =
    let w = word_shift_asked _ _ c.requires.ins_at (search) in
    record { at_in_bounds = w.0; at_bound = w.1.0; at_bound_2 = w.1.1 }

pub insert-requires : goal.insert-requires
insert-requires c =
    let asked = c.requires in let w = inserts_asked _ _ asked.ins_at (search (inserts_kind, past_15)) in
    record { operands_from = w.0; at_bound = w.1.0; long = asked.long; at_value = w.1.1 }

pub returns-in-15 : goal.returns-in-15
returns-in-15 c = let ran = c.two_quads.ensures c.args.values.now in search (quads_ran, in_family quads 0x0f refl)

pub returns-in-16 : goal.returns-in-16
returns-in-16 c = let ran = c.two_quads-in-16.ensures c.args.values.now in search (quads_ran, in_family quads 0x10 refl)

pub returns-in-17 : goal.returns-in-17
returns-in-17 c = let ran = c.shift_words.ensures c.args.values.now in search (shifts_ran, in_family shifts 0x11 refl)

pub returns-in-18 : goal.returns-in-18
returns-in-18 c = let ran = c.shift_words-in-18.ensures c.args.values.now in search (shifts_ran, in_family shifts 0x12 refl)

pub returns-in-19 : goal.returns-in-19
returns-in-19 c = let ran = c.shuffle.ensures c.args.values.now in search shuffle_ran

pub returns-in-20 : goal.returns-in-20
returns-in-20 c = let ran = c.two_quads-in-20.ensures c.args.values.now in search (quads_ran, in_family quads 0x14 refl)

pub returns-in-21 : goal.returns-in-21
returns-in-21 c = search extract_ran

pub returns-in-24 : goal.returns-in-24
returns-in-24 c = let ran = c.shift_by_word.ensures c.args.values.now in search word_shift_ran

pub returns-in-22 : goal.returns-in-22
returns-in-22 c = search (inserts_ran, inserts_kind, past_15)
