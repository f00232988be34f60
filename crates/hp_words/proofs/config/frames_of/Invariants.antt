use Rattle.std.proofs.Common.{◌≡◌, ◌≤◌, ◌++◌, length, map, All, Ok}
use Rattle.hp_model.proofs.Words.{most_frames, number_read}
use Rattle.hp_words.specs.Asked.{comma_pieces}
use Rattle.hp_words.proofs.config.frames_of.Given as goal

abbrev pub invariant-loop : goal.invariant-loop
invariant-loop l = record {
  reads : map number_read (comma_pieces l.text) ≡ map Ok l.frames.items ++ map number_read (comma_pieces l.rest);
  count : length l.frames.items ≡ l.counter;
  limits : All (λ f. (1 ≤ f) × (f ≤ most_frames)) l.frames.items;
}
