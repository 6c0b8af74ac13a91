-- Each arm is the word and the flags of its kind.
use mathlib.Core.Path.{sym, ◌∙◌}
use Rattle.eval.specs.Instructions.{two_word, two_flags}
use Rattle.code.specs.Families.{twos}
use Rattle.code.proofs.Passing.{never}
use Rattle.code.proofs.Families.{none_matched}
use Rattle.eval.proofs.InstructionLaws.{plus_none}
use Rattle.eval.proofs.arithmetic.effect_of.Goals as goal

pub returns-in-1 : goal.returns-in-1
unfolding two_word two_flags
returns-in-1 c = record { word_is = rw c.in-1.is; flags_is = rw c.in-1.is }

pub returns-in-2 : goal.returns-in-2
unfolding two_word two_flags
returns-in-2 c =
    let args = c.args in
    let sum = c.addition.ensures in
    record { word_is = rw c.in-2.is (sum.word_is ∙ plus_none args.a args.b); flags_is = rw c.in-2.is sum.flags_is }

pub returns-in-4 : goal.returns-in-4
unfolding two_word two_flags
returns-in-4 c =
    let kind = c.in-4.is in
    let carry = c.cf.ensures in
    let sum = c.addition-in-4.ensures in
    record { word_is = rw (kind, ← carry) sum.word_is; flags_is = rw (kind, ← carry) sum.flags_is }

pub returns-in-5 : goal.returns-in-5
unfolding two_word two_flags
returns-in-5 c =
    let kind = c.in-5.is in
    let carry = c.cf-in-5.ensures in
    let sum = c.carry_addition.ensures in
    record { word_is = rw (kind, ← carry) sum.word_is; flags_is = rw (kind, ← carry) sum.flags_is }

pub returns-in-6 : goal.returns-in-6
unfolding two_word two_flags
returns-in-6 c =
    let sum = c.overflow_addition.ensures in
    record { word_is = rw c.in-6.is sum.word_is; flags_is = rw c.in-6.is sum.flags_is }

pub returns-in-7 : goal.returns-in-7
unfolding two_word two_flags
returns-in-7 c = record { word_is = rw c.in-7.is c.minus.ensures.word_is; flags_is = rw c.in-7.is }

pub returns-in-10 : goal.returns-in-10
unfolding two_word two_flags
returns-in-10 c = record { word_is = rw c.in-10.is c.mul_mod.ensures; flags_is = rw c.in-10.is }

pub returns-in-11 : goal.returns-in-11
unfolding two_word two_flags
returns-in-11 c =
    let kind = c.in-11.is in
    record { word_is = rw kind c.ixor.ensures; flags_is = rw kind c.cleared.ensures }

pub returns-in-12 : goal.returns-in-12
unfolding two_word two_flags
returns-in-12 c = record { word_is = rw c.in-12.is c.iand.ensures; flags_is = rw c.in-12.is }

pub returns-in-13 : goal.returns-in-13
unfolding two_word two_flags
returns-in-13 c = record { word_is = rw c.in-13.is c.ishr.ensures; flags_is = rw c.in-13.is }

pub returns-in-14 : goal.returns-in-14
unfolding two_word two_flags
returns-in-14 c = record { word_is = rw c.in-14.is c.ishl.ensures; flags_is = rw c.in-14.is }

pub returns-in-25 : goal.returns-in-25
unfolding two_word two_flags
returns-in-25 c =
    let kind = c.in-25.is in
    record { word_is = rw kind c.popcnt64.ensures; flags_is = rw kind c.cleared-in-25.ensures }

pub returns-in-26 : goal.returns-in-26
unfolding two_word two_flags
returns-in-26 c =
    let kind = c.in-26.is in
    record { word_is = rw kind c.lzcnt64.ensures; flags_is = rw kind c.carry_for_zero.ensures }

pub returns-in-27 : goal.returns-in-27
unfolding two_word two_flags
returns-in-27 c =
    let kind = c.in-27.is in
    record { word_is = rw kind c.tzcnt64.ensures; flags_is = rw kind c.carry_for_zero-in-27.ensures }

pub returns-in_default : goal.returns-in_default
returns-in_default c = absurd (never (sym c.requires ∙ none_matched _ _ twos c.in_default.in_default-own.rest))
