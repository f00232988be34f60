-- What each worked script writes, byte for byte, and that the pool's numbers are the sums after each of its events, by computation.
use Rattle.std.proofs.Common.{◌≡◌, true, List, [], ◌∷◌, refl}
use Rattle.std.specs.Fmt.{digits}
use Rattle.hex.specs.Hex.{encode_with, decode_pairs}
use Rattle.hp_model.proofs.Words.{anon_of, attach_of, connect_of, create_of, df_of, end_at, exit_of, fault_of, fork_of, hex_at, intent_at, load_of, ls_of, map_of, meminfo_of, mount_of, nodes_of}
use Rattle.hp_model.proofs.Words.{nr_of, number_at, overcommit_of, piece_at, plain_text, pool_command, preallocate_of, punch_of, read_of, remount_of, reserving_at, sharing_at, slot_command, stat_of}
use Rattle.hp_model.proofs.Words.{step_of_bytes, step_of_command, store_of, truncate_of, umount_of, unlink_of, unmap_of, word_at}
use Rattle.hp_worked.proofs.Agreement.{text_agrees}
use Rattle.hp_worked.proofs.WorkedSharing.{empty_pool_counts, empty_pool_meminfo, grow_and_shrink_go_round_the_nodes, lower_nr_below_pages_in_use}
use Rattle.hp_worked.proofs.WorkedSharing.{nr_up_and_down_with_surplus, one_node_of_one_frame, overcommit_makes_surplus, overcommit_past_its_limit}
use Rattle.hp_worked.proofs.WorkedSharing.{preallocate_fills_a_range, punch_ends_only_filled_reservations, second_reservation_refused, shared_map_first_store, stored_run}
use Rattle.hp_worked.proofs.WorkedSharing.{surplus_pages_all_in_use, surplus_pages_leave_the_pool, truncate_and_lengthen_again, unlinked_file_lives_with_its_maps}
use Rattle.hp_worked.proofs.WorkedMounts.{file_names_and_inodes, mount_minimum_and_size, mount_minimum_filled_again}
use Rattle.hp_worked.proofs.WorkedMounts.{mount_minimum_past_the_pool, mount_minimum_refused_after_shrink, mount_option_table}
use Rattle.hp_worked.proofs.WorkedMounts.{mount_options_and_slots, preallocate_past_mount_size, remount_sets_the_limits, shared_map_past_mount_size, tasks_maps_and_access_refusals}
use Rattle.hp_worked.proofs.WorkedPrivate.{child_copy_refused, grandchildren_and_a_surplus_copy, owner_copies_where_a_page_is_left}
use Rattle.hp_worked.proofs.WorkedPrivate.{owner_takes_page_from_child, partial_unmap_exit_and_all_frames, private_copy_over_file_page}
use Rattle.hp_worked.proofs.WorkedPrivate.{private_read_of_hole_keeps_zeros, reused_page_is_zero, reused_page_is_zero_256_bytes}
use Rattle.hp_worked.proofs.WorkedLines.{last_line_without_its_end, line_at_the_limit_and_empty_line, line_past_the_limit}
use Rattle.hp_worked.proofs.WorkedWords.{Worked}

-- the script gets its replies, and the sums agree after each event
abbrev Works : Worked → Type 0
Works w = (plain_text w.machine w.input ≡ w.replies) × (text_agrees w.machine w.input ≡ true)

abbrev AllWork : List Worked → Type 0
AllWork [] = Unit {0}
AllWork (w ∷ ws) = Works w × AllWork ws

abbrev scripts : List Worked
scripts =
    empty_pool_counts ∷
    empty_pool_meminfo ∷
    grow_and_shrink_go_round_the_nodes ∷
    lower_nr_below_pages_in_use ∷
    nr_up_and_down_with_surplus ∷
    one_node_of_one_frame ∷
    overcommit_makes_surplus ∷
    overcommit_past_its_limit ∷
    preallocate_fills_a_range ∷
    punch_ends_only_filled_reservations ∷
    second_reservation_refused ∷
    shared_map_first_store ∷
    stored_run ∷
    surplus_pages_all_in_use ∷
    surplus_pages_leave_the_pool ∷
    truncate_and_lengthen_again ∷
    unlinked_file_lives_with_its_maps ∷
    file_names_and_inodes ∷
    mount_minimum_and_size ∷
    mount_minimum_filled_again ∷
    mount_minimum_past_the_pool ∷
    mount_minimum_refused_after_shrink ∷
    mount_option_table ∷
    mount_options_and_slots ∷
    preallocate_past_mount_size ∷
    remount_sets_the_limits ∷
    shared_map_past_mount_size ∷
    tasks_maps_and_access_refusals ∷
    child_copy_refused ∷
    grandchildren_and_a_surplus_copy ∷
    owner_copies_where_a_page_is_left ∷
    owner_takes_page_from_child ∷
    partial_unmap_exit_and_all_frames ∷
    private_copy_over_file_page ∷
    private_read_of_hole_keeps_zeros ∷
    reused_page_is_zero ∷
    reused_page_is_zero_256_bytes ∷
    last_line_without_its_end ∷
    line_at_the_limit_and_empty_line ∷
    line_past_the_limit ∷ []

all_work : AllWork scripts
unfolding step_of_bytes piece_at end_at word_at number_at hex_at sharing_at intent_at reserving_at step_of_command slot_command pool_command
    connect_of attach_of fork_of exit_of mount_of remount_of umount_of create_of unlink_of truncate_of punch_of preallocate_of read_of ls_of stat_of map_of anon_of unmap_of
    fault_of load_of store_of nr_of overcommit_of meminfo_of nodes_of df_of digits encode_with decode_pairs
all_work = (
  (refl, refl),
  (
    (refl, refl),
    (
      (refl, refl),
      (
        (refl, refl),
        (
          (refl, refl),
          (
            (refl, refl),
            (
              (refl, refl),
              (
                (refl, refl),
                (
                  (refl, refl),
                  (
                    (refl, refl),
                    (
                      (refl, refl),
                      (
                        (refl, refl),
                        (
                          (refl, refl),
                          (
                            (refl, refl),
                            (
                              (refl, refl),
                              (
                                (refl, refl),
                                (
                                  (refl, refl),
                                  (
                                    (refl, refl),
                                    (
                                      (refl, refl),
                                      (
                                        (refl, refl),
                                        (
                                          (refl, refl),
                                          (
                                            (refl, refl),
                                            (
                                              (refl, refl),
                                              (
                                                (refl, refl),
                                                (
                                                  (refl, refl),
                                                  (
                                                    (refl, refl),
                                                    (
                                                      (refl, refl),
                                                      (
                                                        (refl, refl),
                                                        (
                                                          (refl, refl),
                                                          (
                                                            (refl, refl),
                                                            (
                                                              (refl, refl),
                                                              (
                                                                (refl, refl),
                                                                ((refl, refl), ((refl, refl), ((refl, refl), ((refl, refl), ((refl, refl), ((refl, refl), ((refl, refl), ((refl, refl), tt)))))))),
                                                              ),
                                                            ),
                                                          ),
                                                        ),
                                                      ),
                                                    ),
                                                  ),
                                                ),
                                              ),
                                            ),
                                          ),
                                        ),
                                      ),
                                    ),
                                  ),
                                ),
                              ),
                            ),
                          ),
                        ),
                      ),
                    ),
                  ),
                ),
              ),
            ),
          ),
        ),
      ),
    ),
  ),
)
