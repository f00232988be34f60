-- The words of files and maps as they are kept, for pages of proofs. The page that a word is passed on from says what it means.
pub use Rattle.hp_lookup.specs.Asking.{IsAsked, IsGranted, entered_from, is_first_of, next_of, wants, with_range}
pub use Rattle.hp_lookup.specs.Dropping.{HasHolders, IsDropping, IsLeft, at_node, count_at}
pub use Rattle.hp_lookup.specs.Files.{Files, copied_at, edited_at, file_at, filled_at, mapped_at, parted_at, placed_at, taken_back_at, with_anon, with_cell_at, with_file_at}
pub use Rattle.hp_lookup.specs.Forking.{AreReady, HasRoom, HaveJoined, IsReady, IsShared, IsSharing, children_of, copies_in, in_list, in_lists}
pub use Rattle.hp_lookup.specs.Forking.{joined, joined_at, list_copies, maps_by, maps_named, with_children, with_list}
pub use Rattle.hp_lookup.specs.Held.{IsHeld, in_cell, in_cells, in_file, in_files, in_map, in_place, more_in, more_of}
pub use Rattle.hp_lookup.specs.Hints.{AreNoted, AreSame, IsCopied, IsFiles, IsMore, IsMoreBut, IsMoreByMap, IsMoreByName, Noted, has_key, is_noted_as, is_pair, names_of, noted_numbers, tally_of}
pub use Rattle.hp_lookup.specs.Keyed.{IsKeyed, Label, has_label, is_key, is_listed, is_name_of, key_of, keys_in, label_of, labels_of, maps_for, numbers_in, tasks_in}
pub use Rattle.hp_lookup.specs.Leaving.{HaveMapsLeft, IsMoreButMap, IsMoreButMapsOf, cut_at, cut_map, emptied, ended_for, file_owed, is_used, least_among, left_at, left_by, left_from, lesser_task}
pub use Rattle.hp_lookup.specs.Leaving.{map_sum, owed, stays, swept_at}
pub use Rattle.hp_lookup.specs.Level.{AreLevel, copy_in}
pub use Rattle.hp_lookup.specs.Numbered.{NumberedFile, cell_shown, copy_shown, file_shown, files_shown, map_shown, mapping_at, new_mapping, no_mapping, numbered_at, page_in, place_shown, with_mapping}
pub use Rattle.hp_lookup.specs.Numbered.{with_punched, with_truncated}
pub use Rattle.hp_lookup.specs.Places.{IsFirstTask, IsFound, IsMissing, IsNamed, all_maps, all_tasks, has_it, map_among, mount_with, spot_of}
pub use Rattle.hp_lookup.specs.Table.{TaskNumbers, numbers_at, numbers_under}
