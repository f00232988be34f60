-- A draft, as the frame that it is once it is made.
use Rattle.hp_model.specs.files.Page.{zeros}
use Rattle.hp_frames.specs.Frame.{Frame}
use Rattle.hp_frames.specs.declared.draft.Draft.{Draft}
use Rattle.hp_frames.specs.declared.draft.Draft.TheVariants.{Used, Fresh}

abbrev pub made : Draft → Frame
made (Used f) = f
made (Fresh f) = record { node = f.node; memory = f.memory; bytes = zeros f.page_bytes }
