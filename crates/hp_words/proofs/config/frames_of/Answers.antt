use Rattle.std.proofs.Common.{refl, inr, arith}
use Rattle.hp_words.proofs.Frames.{piece_read, too_many}
use Rattle.hp_words.proofs.config.frames_of.Goals as goal

pub returns-in_default-clause-wrong : goal.returns-in_default-clause-wrong
returns-in_default-clause-wrong c =
    inr (
      refl,
      λ can.
          let read = piece_read c.args.text.now _ c.loop.rest.now _ c.loop.frames.items c.loop.invariant.reads c.first_piece.ensures.pieces can in
          c.in_default.ensures read.0 read.1 read.2 read.3,
    )

pub returns-clause-wrong : goal.returns-clause-wrong
returns-clause-wrong c = inr (refl, too_many c.args.text.now c.loop.rest.now c.loop.frames.items c.loop.invariant.reads (omega (arith, c.loop.invariant.count, c.loop-test.false)))
