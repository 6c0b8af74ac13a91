-- Each word is the one that its two bits of the immediate name.
use Rattle.std.proofs.Common.{◌∙◌, ◌%◌, rules}
use Rattle.words.specs.Types.{quad32, select_word}
use Rattle.words.proofs.PartLaws.{map_is}
use Rattle.words.proofs.LaneLaws.{shuffle_lanes_is}
use Rattle.words.proofs.lanes.shuffle_lanes.Goals as goal

pub returns : goal.returns
returns c =
    let x = quad32 c.args.x in
    map_is _ (λ k. select_word x (k % 4)) _ _ (λ k r h. search rules) c.map.ensures
    ∙ shuffle_lanes_is x c.args.imm8 _ c.byte_to_twobits-order.ensures
