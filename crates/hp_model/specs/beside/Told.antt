-- The replies that short answers stand for.
use Rattle.std.specs.Prelude.{ℕ, ◌-◌, ◌++◌, length, replicate, Result, Ok, Err}
use Rattle.hp_model.specs.declared.answer.Answer.{Answer}
use Rattle.hp_model.specs.declared.answer.Answer.TheVariants as answer
use Rattle.hp_model.specs.declared.refusal.Refusal.{Refusal}
use Rattle.hp_model.specs.declared.told.Told.{Told}
use Rattle.hp_model.specs.declared.told.Told.TheVariants.{Done, Home, MapNo, Number, Bytes, Stat, Usage, Names, Numbers, PerNode}
use Rattle.hp_model.specs.machine.Plan.{Reply}
use Rattle.hp_model.specs.Profile.{most_bytes}

-- the answer of the same name and numbers, and of these bytes
abbrev pub told_answer : Told → Answer
told_answer Done = answer.Done
told_answer (Home home) = answer.Home home
told_answer (MapNo number) = answer.MapNo number
told_answer (Number n) = answer.Number n
told_answer (Bytes bytes) = answer.Bytes (length bytes.now) (bytes.now ++ replicate (most_bytes - length bytes.now) 0)
told_answer (Stat len pages entries maps) = answer.Stat len pages entries maps
told_answer (Usage max min used inodes files) = answer.Usage max min used inodes files
told_answer (Names names) = answer.Names names
told_answer (Numbers counts) = answer.Numbers counts
told_answer (PerNode nodes rows) = answer.PerNode nodes rows

abbrev pub told_reply : Result Told Refusal → Reply
told_reply (Ok told) = Ok (told_answer told)
told_reply (Err refusal) = Err refusal

-- the reply with a new map's number, or with its refusal
abbrev pub map_reply : Result ℕ Refusal → Reply
map_reply (Ok number) = Ok (answer.MapNo number)
map_reply (Err refusal) = Err refusal
