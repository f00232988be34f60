-- The words of the definitions, for pages of proofs. The page that a word is passed on from says what it means.
pub use Rattle.hp_model.specs.Lists.{distinct, edit_at, edit_range, found, is_among, least_unused, one_on, part}
pub use Rattle.hp_model.specs.Profile.{most_bytes, most_file_pages, most_files, most_frames, most_frames_in_all, most_map_pages, most_maps, most_overcommit, most_places, most_tasks}
pub use Rattle.hp_model.specs.beside.Accesses.{bytes_reply, done_reply, fault_step, load_step, store_step}
pub use Rattle.hp_model.specs.beside.Copying.{has_names, reply_has_names}
pub use Rattle.hp_model.specs.beside.Plain.{Chooser, plain_choice, plain_event, plain_step, plain_text, run_by}
pub use Rattle.hp_model.specs.beside.Queue.{DoesAll, DoesOne, QueuedView}
pub use Rattle.hp_model.specs.beside.Ranges.{within}
pub use Rattle.hp_model.specs.beside.Run.{IsRun, RunsBy}
pub use Rattle.hp_model.specs.beside.Told.{told_answer, told_reply}
pub use Rattle.hp_model.specs.files.Access.{access, new_copy, private_access, shared_access, uncopied_access}
pub use Rattle.hp_model.specs.files.CopyWrite.{copy_write, drop_stamp, holds, is_held_once, owner_write, robbed, taken_back}
pub use Rattle.hp_model.specs.files.File.{File, Mount, at_least, cell_at, cell_in, cell_punched, cells_to, entered, file_in, has_page, is_entered, is_hole, map_in, maps_of, new_file, page_of}
pub use Rattle.hp_model.specs.files.File.{with_cell, with_file, with_map}
pub use Rattle.hp_model.specs.files.Fill.{cells_filled, lacking, lacks_page, next_bare, nodes_from, range_filled, rising_nodes, zero_page}
pub use Rattle.hp_model.specs.files.Fork.{file_forked, forked}
pub use Rattle.hp_model.specs.files.GiveBack.{file_unmapped, file_without, is_kept, is_left, map_unmapped, punched, swept, truncated, unlinked, unmapped_from, without_task}
pub use Rattle.hp_model.specs.files.MakeMap.{asked, cells_mapped, mapped, new_map, next_number, numbers_of, reserves, tasks_of, with_new}
pub use Rattle.hp_model.specs.files.Mapping.{Map, Mapping, copy_of, is_live, is_map, is_mapped, is_of, is_shared, is_unconsumed, map_for, map_punched, no_map, place_at, unconsumed, with_place}
pub use Rattle.hp_model.specs.files.Mapping.{without_copy, without_range}
pub use Rattle.hp_model.specs.files.MountCounts.{committed_of, copies_of, file_pages, file_pages_at, file_reserves, is_page_at, is_waiting, owner_reserves, pages_at, pages_of, stamp_at, stamps_of}
pub use Rattle.hp_model.specs.files.MountCounts.{usage_of}
pub use Rattle.hp_model.specs.files.Options.{Wanted, checked, is_below_min, last_of, limits, limits_of, number_of, options_of, parts, wanted_of, when}
pub use Rattle.hp_model.specs.files.Page.{Copy, Page, overwritten, zeros}
pub use Rattle.hp_model.specs.files.Reserved.{is_reserved}
pub use Rattle.hp_model.specs.files.Spot.{Spot, again, cell_written, copied, file_written, filled, map_written, place_written, spot, spot_in, written}
pub use Rattle.hp_model.specs.files.Value.{shown, value}
pub use Rattle.hp_model.specs.machine.Event.{CanHappen, IsEvent, IsEventRun, IsFresh, after, asked_pool, has_maps_of, is_slot_event, planned, stamps_in, with_outcome, with_pool_reply, with_table}
pub use Rattle.hp_model.specs.machine.Machine.{committed_pages, counts_in, idle_node, node_of, open_mount, pool_of, row_of, rows_of, slots_from, start, used_at, used_pages, with_pool}
pub use Rattle.hp_model.specs.machine.Named.{is_in, map_named, named_on, spot_on}
pub use Rattle.hp_model.specs.machine.Plan.{Answered, Ask, Choice, Finish, IsWithinLimit, Outcome, Plan, Refused, Reply, Slot, and_then, continued, fall_of, gives, grant, grant_page, puts_of, refuse}
pub use Rattle.hp_model.specs.machine.Plan.{reserved_page, slot_committed, slot_pages, slot_pages_at, slot_usage, unless, when_granted, with_value}
pub use Rattle.hp_model.specs.machine.Promises.{Answers, AnswersWhatWas, IsPromised, IsPromisedRun, IsPromisedStep, SameButNodes, is_backed_step, is_late, is_usage, least_of, over, takes_memory}
pub use Rattle.hp_model.specs.machine.Promises.{wants_page}
pub use Rattle.hp_model.specs.machine.Ready.{IsReadyMachine, Machine, machine_of, state_of}
pub use Rattle.hp_model.specs.machine.Settled.{IsSettledPool, IsSettledState}
pub use Rattle.hp_model.specs.machine.Short.{IsMountShort, IsRemountShortOn, IsShort, IsShortOn, MeetsShortage, asked_of, asks, can_have_page, has_own, is_backed, owns_copy, page_for}
pub use Rattle.hp_model.specs.machine.SlotEvent.{anon_tests, are_too_many_maps, byte_access, byte_tests, bytes_answer, committed_with, create_tests, edited, fault, fault_tests, file_named, fill}
pub use Rattle.hp_model.specs.machine.SlotEvent.{fork_maps, fork_tests, has_maps, has_name, is_bad_range, is_between, is_beyond, is_name, is_name_byte, is_new_task_over, is_unmapped, load, map_file}
pub use Rattle.hp_model.specs.machine.SlotEvent.{map_tests, mount_on, mount_outcome, mount_pages, mount_section, on_mount, on_none, preallocate, preallocate_tests, preallocated, read, read_tests}
pub use Rattle.hp_model.specs.machine.SlotEvent.{remount, remount_outcome, remount_section, remount_tests, slot_event, stat, store, truncate, umount_tests, unentered, unmap}
pub use Rattle.hp_model.specs.machine.Sound.{FileHasCopy, HasCopy, IsCopyPlace, IsSound, IsSoundFile, IsSoundMap, IsSoundMount, file_has, is_stamp, map_has, owns_stamp, place_has}
pub use Rattle.hp_model.specs.machine.State.{Node, State, slot_at, with_slot}
pub use Rattle.hp_model.specs.machine.Step.{Answer_with, Do, IsScript, IsScripted, Script, Where_mapped, exit_slot, exit_slots, finding, fork_slots, home_in, on_slot, only, or_undone, script, undone}
pub use Rattle.hp_model.specs.machine.Step.{when_done}
unfoldable pub use Rattle.hp_model.specs.machine.Step.{IsStep}
pub use Rattle.hp_model.specs.machine.Table.{Table, added, home_of, is_crowded, is_known, or_refused, removed, table_event, when_known}
pub use Rattle.hp_model.specs.machine.Tests.{IsForkRefusedBy, IsRefusedBy, MeetsTests, cut_off_test, failed, failed_at, failed_by, failed_mount, failed_on, failed_remount, first_failed, if_there}
pub use Rattle.hp_model.specs.machine.Tests.{is_cut_off, is_for_pages, is_short, refused_limits}
pub use Rattle.hp_model.specs.pool.Grant.{can_grant, granted, is_full, is_over, rise, surplus_times}
pub use Rattle.hp_model.specs.pool.NodeRows.{IsRow, NodeRows, add_surplus_row, at_row, demote_row, demoted, frames_of, free_of, give_back_row, given_back, grow_row, grown, has, idle_row, lowest, near}
pub use Rattle.hp_model.specs.pool.NodeRows.{next_from, next_node, no_row, promote_row, promoted, put_row, row_at, shrink_row, shrunk, some_has, sum_row, surp_of, surplus_added, take_row, taken}
pub use Rattle.hp_model.specs.pool.NodeRows.{taken_times, total_of, used}
pub use Rattle.hp_model.specs.pool.Pool.{filled_by, give_back_times, granted_at, kept_times, no_pages, nr_answer, page_kept, page_taken, pages_taken, puts_from, released, section, take_node, takes_at}
pub use Rattle.hp_model.specs.pool.Pool.{takes_of, trimmed}
pub use Rattle.hp_model.specs.pool.PoolCounts.{IsSettled, Pool, counts_by, counts_of, rsvd, used_of}
pub use Rattle.hp_model.specs.pool.Resize.{lower_times, lowered, no_count, node_count, node_counts, pool_event, raise_times, raised, set_nr}
pub use Rattle.hp_model.specs.run.Ran.{AppendsFront, Ran, RanInPart}
pub use Rattle.hp_model.specs.run.Served.{AnswersInput, IsMemoryOrTooLong, Serves, text_of_fault, text_of_refusals, unended_by}
pub use Rattle.hp_model.specs.text.Lines.{Line, after_lines, ended, ended_lines, ended_pieces, last_piece, lines, pieces, unended}
pub use Rattle.hp_model.specs.text.Reading.{step_of}
unfoldable pub use Rattle.hp_model.specs.text.Reading.{anon_of, attach_of, connect_of, create_of, df_of, exit_of, fault_of, fork_of, load_of, ls_of, map_of, meminfo_of, mount_of, nodes_of, nr_of}
unfoldable pub use Rattle.hp_model.specs.text.Reading.{overcommit_of, pool_command, preallocate_of, punch_of, read_of, remount_of, slot_command, stat_of, step_of_bytes, step_of_command, store_of}
unfoldable pub use Rattle.hp_model.specs.text.Reading.{truncate_of, umount_of, unlink_of, unmap_of}
pub use Rattle.hp_model.specs.text.Text.{AnswersLines, AnswersStep, IsTextOfReplies}
pub use Rattle.hp_model.specs.text.Words.{Read, bytes_of_hex, is_word, is_word_byte, number_read, pieces_of_line, word_of, ◌>>=◌}
unfoldable pub use Rattle.hp_model.specs.text.Words.{end_at, hex_at, intent_at, number_at, piece_at, reserving_at, sharing_at, word_at}
pub use Rattle.hp_model.specs.text.Writing.{IsWithinLimits, in_columns, line_of, meminfo_text, names_text, rows_text, spaced, text}
pub use Rattle.hp_model.specs.threads.Closing.{GivesWhatIsInUse, IsInUse, KeepsPlaces, is_giving_back, removes_maps, removes_task, to_exit, to_remove, to_return}
pub use Rattle.hp_model.specs.threads.Differ.{Asks, Differ, HasCircle, HasReceipt, InPoolAt, IsBefore, LostSection, SharedSection, ToldTwice, Untold, WrongReceipt, WrongSection, entry_at, of_pool}
pub use Rattle.hp_model.specs.threads.JointRun.{AreRuns, Entry, HasParts, InPool, InSlot, InTasks, IsJointRun, IsOrder, IsThere, IsTold, Item, Joins, Trails, event_of, keep, numbered, option_cons}
pub use Rattle.hp_model.specs.threads.JointRun.{part_of, placed, pool_entry, pool_part, receipt_of, section_entry, slot_entry, slot_part, slot_trail, task_entry, task_part, told}
pub use Rattle.hp_model.specs.threads.LocalRun.{Gives, Goes, IsLocalRun, IsLocalStep, ThroughDoor}
pub use Rattle.hp_model.specs.threads.PoolRun.{IsPoolRun, IsPoolStep}
pub use Rattle.hp_model.specs.threads.TableRun.{IsTableRun}
pub use Rattle.hp_model.specs.threads.Telling.{Tells, TellsFront, TellsStep, has_place, most_receipts, told_of}
