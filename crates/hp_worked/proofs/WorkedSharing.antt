-- Worked scripts of shared maps and of the pool.
use Rattle.std.proofs.Common.{◌++◌, [], ◌∷◌, codes}
use Rattle.hp_model.proofs.Words.{start}
use Rattle.hp_worked.proofs.WorkedWords.{machine, Worked}

abbrev pub empty_pool_counts : Worked
empty_pool_counts = record {
  machine = machine;
  input =
      codes "nr 4\nconnect 1 0\nconnect 2 1\nmeminfo\nnodes\n";
  replies =
      codes "ok 4\nok\nok\ntext 6\nHugePages_Total:       4\nHugePages_Free:        4\nHugePages_Rsvd:        0\n"
      ++ codes "HugePages_Surp:        0\nHugepagesize:          1 kB\nHugetlb:               4 kB\ntext 2\n0 2 2 0\n1 2 2 0\n";
}

abbrev pub empty_pool_meminfo : Worked
empty_pool_meminfo = record {
  machine = machine;
  input =
      codes "nr 4\nconnect 1 0\nconnect 2 1\nmeminfo\n";
  replies =
      codes "ok 4\nok\nok\ntext 6\nHugePages_Total:       4\nHugePages_Free:        4\nHugePages_Rsvd:        0\n"
      ++ codes "HugePages_Surp:        0\nHugepagesize:          1 kB\nHugetlb:               4 kB\n";
}

abbrev pub grow_and_shrink_go_round_the_nodes : Worked
grow_and_shrink_go_round_the_nodes = record {
  machine = machine;
  input =
      codes "nr 4\nnodes\nnr 1\nnodes\n";
  replies =
      codes "ok 4\ntext 2\n0 2 2 0\n1 2 2 0\nok 1\ntext 2\n0 0 0 0\n1 1 1 0\n";
}

abbrev pub lower_nr_below_pages_in_use : Worked
lower_nr_below_pages_in_use = record {
  machine = machine;
  input =
      codes "nr 4\nconnect 1 0\nconnect 2 1\ncreate 0 a\nmap 1 0 a 0 3 shared\nmeminfo\nstore 1 0 1 0 0 ff\nmeminfo\n"
      ++ codes "load 1 0 1 0 0 2\nnodes\ncreate 0 b\nmap 2 0 b 0 2 shared\nstat 0 b\novercommit 1\nmap 2 0 b 0 2 shared\n"
      ++ codes "meminfo\nnodes\nnr 1\nmeminfo\nnodes\n";
  replies =
      codes "ok 4\nok\nok\nok\nok 1\ntext 6\nHugePages_Total:       4\nHugePages_Free:        4\nHugePages_Rsvd:        3\n"
      ++ codes "HugePages_Surp:        0\nHugepagesize:          1 kB\nHugetlb:               4 kB\nok\ntext 6\n"
      ++ codes "HugePages_Total:       4\nHugePages_Free:        3\nHugePages_Rsvd:        2\nHugePages_Surp:        0\n"
      ++ codes "Hugepagesize:          1 kB\nHugetlb:               4 kB\nok ff00\ntext 2\n0 2 1 0\n1 2 2 0\nok\n"
      ++ codes "error 2 NoPages\nok 0 0 0 0\nok\nok 1\ntext 6\nHugePages_Total:       5\nHugePages_Free:        4\n"
      ++ codes "HugePages_Rsvd:        4\nHugePages_Surp:        1\nHugepagesize:          1 kB\nHugetlb:               5 kB\n"
      ++ codes "text 2\n0 2 1 0\n1 3 3 1\nok 1\ntext 6\nHugePages_Total:       5\nHugePages_Free:        4\n"
      ++ codes "HugePages_Rsvd:        4\nHugePages_Surp:        4\nHugepagesize:          1 kB\nHugetlb:               5 kB\n"
      ++ codes "text 2\n0 2 1 2\n1 3 3 2\n";
}

abbrev pub nr_up_and_down_with_surplus : Worked
nr_up_and_down_with_surplus = record {
  machine = machine;
  input =
      codes "nr 4\nconnect 1 0\nconnect 2 1\ncreate 0 a\nmap 1 0 a 0 3 shared\nmeminfo\nstore 1 0 1 0 0 ff\nmeminfo\n"
      ++ codes "load 1 0 1 0 0 2\nnodes\ncreate 0 b\nmap 2 0 b 0 2 shared\nstat 0 b\novercommit 1\nmap 2 0 b 0 2 shared\n"
      ++ codes "meminfo\nnodes\nnr 1\nmeminfo\nnodes\nnr 3\nmeminfo\nnodes\novercommit 0\nmap 2 0 b 2 1 shared\nnr 5\n"
      ++ codes "meminfo\nmap 2 0 b 2 1 shared\nnr 6\nmeminfo\nnodes\nmap 2 0 b 2 1 shared\nmeminfo\n";
  replies =
      codes "ok 4\nok\nok\nok\nok 1\ntext 6\nHugePages_Total:       4\nHugePages_Free:        4\nHugePages_Rsvd:        3\n"
      ++ codes "HugePages_Surp:        0\nHugepagesize:          1 kB\nHugetlb:               4 kB\nok\ntext 6\n"
      ++ codes "HugePages_Total:       4\nHugePages_Free:        3\nHugePages_Rsvd:        2\nHugePages_Surp:        0\n"
      ++ codes "Hugepagesize:          1 kB\nHugetlb:               4 kB\nok ff00\ntext 2\n0 2 1 0\n1 2 2 0\nok\n"
      ++ codes "error 2 NoPages\nok 0 0 0 0\nok\nok 1\ntext 6\nHugePages_Total:       5\nHugePages_Free:        4\n"
      ++ codes "HugePages_Rsvd:        4\nHugePages_Surp:        1\nHugepagesize:          1 kB\nHugetlb:               5 kB\n"
      ++ codes "text 2\n0 2 1 0\n1 3 3 1\nok 1\ntext 6\nHugePages_Total:       5\nHugePages_Free:        4\n"
      ++ codes "HugePages_Rsvd:        4\nHugePages_Surp:        4\nHugepagesize:          1 kB\nHugetlb:               5 kB\n"
      ++ codes "text 2\n0 2 1 2\n1 3 3 2\nok 3\ntext 6\nHugePages_Total:       5\nHugePages_Free:        4\n"
      ++ codes "HugePages_Rsvd:        4\nHugePages_Surp:        2\nHugepagesize:          1 kB\nHugetlb:               5 kB\n"
      ++ codes "text 2\n0 2 1 0\n1 3 3 2\nok\nerror 2 NoPages\nok 5\ntext 6\nHugePages_Total:       5\n"
      ++ codes "HugePages_Free:        4\nHugePages_Rsvd:        4\nHugePages_Surp:        0\nHugepagesize:          1 kB\n"
      ++ codes "Hugetlb:               5 kB\nerror 2 NoPages\nok 6\ntext 6\nHugePages_Total:       6\n"
      ++ codes "HugePages_Free:        5\nHugePages_Rsvd:        4\nHugePages_Surp:        0\nHugepagesize:          1 kB\n"
      ++ codes "Hugetlb:               6 kB\ntext 2\n0 3 2 0\n1 3 3 0\nok 2\ntext 6\nHugePages_Total:       6\n"
      ++ codes "HugePages_Free:        5\nHugePages_Rsvd:        5\nHugePages_Surp:        0\nHugepagesize:          1 kB\n"
      ++ codes "Hugetlb:               6 kB\n";
}

abbrev pub one_node_of_one_frame : Worked
one_node_of_one_frame = record {
  machine = start (1 ∷ []) 1024 4;
  input =
      codes "nr 4\nnodes\n";
  replies =
      codes "ok 1\ntext 1\n0 1 1 0\n";
}

abbrev pub overcommit_makes_surplus : Worked
overcommit_makes_surplus = record {
  machine = machine;
  input =
      codes "nr 4\nconnect 1 0\nconnect 2 1\ncreate 0 a\nmap 1 0 a 0 3 shared\nmeminfo\nstore 1 0 1 0 0 ff\nmeminfo\n"
      ++ codes "load 1 0 1 0 0 2\nnodes\ncreate 0 b\nmap 2 0 b 0 2 shared\nstat 0 b\novercommit 1\nmap 2 0 b 0 2 shared\n"
      ++ codes "meminfo\nnodes\n";
  replies =
      codes "ok 4\nok\nok\nok\nok 1\ntext 6\nHugePages_Total:       4\nHugePages_Free:        4\nHugePages_Rsvd:        3\n"
      ++ codes "HugePages_Surp:        0\nHugepagesize:          1 kB\nHugetlb:               4 kB\nok\ntext 6\n"
      ++ codes "HugePages_Total:       4\nHugePages_Free:        3\nHugePages_Rsvd:        2\nHugePages_Surp:        0\n"
      ++ codes "Hugepagesize:          1 kB\nHugetlb:               4 kB\nok ff00\ntext 2\n0 2 1 0\n1 2 2 0\nok\n"
      ++ codes "error 2 NoPages\nok 0 0 0 0\nok\nok 1\ntext 6\nHugePages_Total:       5\nHugePages_Free:        4\n"
      ++ codes "HugePages_Rsvd:        4\nHugePages_Surp:        1\nHugepagesize:          1 kB\nHugetlb:               5 kB\n"
      ++ codes "text 2\n0 2 1 0\n1 3 3 1\n";
}

abbrev pub overcommit_past_its_limit : Worked
overcommit_past_its_limit = record {
  machine = machine;
  input =
      codes "nr 4\nconnect 1 0\nconnect 2 1\novercommit 4294967296\n";
  replies =
      codes "ok 4\nok\nok\nerror 17 OutOfRange\n";
}

abbrev pub preallocate_fills_a_range : Worked
preallocate_fills_a_range = record {
  machine = machine;
  input =
      codes "nr 4\nconnect 1 0\nconnect 2 1\ncreate 0 a\npreallocate 0 a 0 2\nmeminfo\nnodes\nstat 0 a\n"
      ++ codes "map 1 0 a 0 4 shared\nmeminfo\npreallocate 0 a 1 4\nmeminfo\npreallocate 0 a 4 5\nstat 0 a\n"
      ++ codes "punch 0 a 0 1\nmeminfo\npreallocate 0 a 0 1\nmeminfo\nload 1 0 1 0 0 1\npreallocate 0 a 3 3\n"
      ++ codes "preallocate 0 a 0 65537\n";
  replies =
      codes "ok 4\nok\nok\nok\nok\ntext 6\nHugePages_Total:       4\nHugePages_Free:        2\n"
      ++ codes "HugePages_Rsvd:        0\nHugePages_Surp:        0\nHugepagesize:          1 kB\n"
      ++ codes "Hugetlb:               4 kB\ntext 2\n0 2 0 0\n1 2 2 0\nok 2 2 2 0\nok 1\ntext 6\n"
      ++ codes "HugePages_Total:       4\nHugePages_Free:        2\nHugePages_Rsvd:        2\n"
      ++ codes "HugePages_Surp:        0\nHugepagesize:          1 kB\nHugetlb:               4 kB\nok\n"
      ++ codes "text 6\nHugePages_Total:       4\nHugePages_Free:        0\nHugePages_Rsvd:        0\n"
      ++ codes "HugePages_Surp:        0\nHugepagesize:          1 kB\nHugetlb:               4 kB\n"
      ++ codes "error 2 NoPages\nok 4 4 4 1\nok\ntext 6\nHugePages_Total:       4\nHugePages_Free:        1\n"
      ++ codes "HugePages_Rsvd:        0\nHugePages_Surp:        0\nHugepagesize:          1 kB\n"
      ++ codes "Hugetlb:               4 kB\nok\ntext 6\nHugePages_Total:       4\nHugePages_Free:        0\n"
      ++ codes "HugePages_Rsvd:        0\nHugePages_Surp:        0\nHugepagesize:          1 kB\n"
      ++ codes "Hugetlb:               4 kB\nok 00\nerror 17 OutOfRange\nerror 20 TooMany\n";
}

abbrev pub punch_ends_only_filled_reservations : Worked
punch_ends_only_filled_reservations = record {
  machine = machine;
  input =
      codes "nr 4\nconnect 1 0\nconnect 2 1\ncreate 0 a\nmap 1 0 a 0 3 shared\nstore 1 0 1 0 0 01\nmeminfo\npunch 0 a 0 2\n"
      ++ codes "meminfo\nstat 0 a\ncreate 0 b\nmap 2 0 b 0 2 shared\nmeminfo\nfault 1 0 1 0 write\nfault 1 0 1 1 write\n"
      ++ codes "meminfo\n";
  replies =
      codes "ok 4\nok\nok\nok\nok 1\nok\ntext 6\nHugePages_Total:       4\nHugePages_Free:        3\n"
      ++ codes "HugePages_Rsvd:        2\nHugePages_Surp:        0\nHugepagesize:          1 kB\nHugetlb:               4 kB\n"
      ++ codes "ok\ntext 6\nHugePages_Total:       4\nHugePages_Free:        4\nHugePages_Rsvd:        2\n"
      ++ codes "HugePages_Surp:        0\nHugepagesize:          1 kB\nHugetlb:               4 kB\nok 3 0 2 1\nok\nok 1\n"
      ++ codes "text 6\nHugePages_Total:       4\nHugePages_Free:        4\nHugePages_Rsvd:        4\n"
      ++ codes "HugePages_Surp:        0\nHugepagesize:          1 kB\nHugetlb:               4 kB\nerror 2 NoPages\nok\n"
      ++ codes "text 6\nHugePages_Total:       4\nHugePages_Free:        3\nHugePages_Rsvd:        3\n"
      ++ codes "HugePages_Surp:        0\nHugepagesize:          1 kB\nHugetlb:               4 kB\n";
}

abbrev pub second_reservation_refused : Worked
second_reservation_refused = record {
  machine = machine;
  input =
      codes "nr 4\nconnect 1 0\nconnect 2 1\ncreate 0 a\nmap 1 0 a 0 3 shared\nmeminfo\nstore 1 0 1 0 0 ff\nmeminfo\n"
      ++ codes "load 1 0 1 0 0 2\ncreate 0 b\nmap 2 0 b 0 2 shared\n";
  replies =
      codes "ok 4\nok\nok\nok\nok 1\ntext 6\nHugePages_Total:       4\nHugePages_Free:        4\nHugePages_Rsvd:        3\n"
      ++ codes "HugePages_Surp:        0\nHugepagesize:          1 kB\nHugetlb:               4 kB\nok\ntext 6\n"
      ++ codes "HugePages_Total:       4\nHugePages_Free:        3\nHugePages_Rsvd:        2\nHugePages_Surp:        0\n"
      ++ codes "Hugepagesize:          1 kB\nHugetlb:               4 kB\nok ff00\nok\nerror 2 NoPages\n";
}

abbrev pub shared_map_first_store : Worked
shared_map_first_store = record {
  machine = machine;
  input =
      codes "nr 4\nconnect 1 0\nconnect 2 1\ncreate 0 a\nmap 1 0 a 0 3 shared\nmeminfo\nstore 1 0 1 0 0 ff\nmeminfo\n"
      ++ codes "load 1 0 1 0 0 2\nnodes\n";
  replies =
      codes "ok 4\nok\nok\nok\nok 1\ntext 6\nHugePages_Total:       4\nHugePages_Free:        4\nHugePages_Rsvd:        3\n"
      ++ codes "HugePages_Surp:        0\nHugepagesize:          1 kB\nHugetlb:               4 kB\nok\ntext 6\n"
      ++ codes "HugePages_Total:       4\nHugePages_Free:        3\nHugePages_Rsvd:        2\nHugePages_Surp:        0\n"
      ++ codes "Hugepagesize:          1 kB\nHugetlb:               4 kB\nok ff00\ntext 2\n0 2 1 0\n1 2 2 0\n";
}

abbrev pub stored_run : Worked
stored_run = record {
  machine = machine;
  input =
      codes "nr 4\nconnect 1 0\nconnect 2 1\ncreate 0 a\nmap 1 0 a 0 3 shared\nstore 1 0 1 0 0 ff\nload 1 0 1 0 0 2\n"
      ++ codes "meminfo\n";
  replies =
      codes "ok 4\nok\nok\nok\nok 1\nok\nok ff00\ntext 6\nHugePages_Total:       4\nHugePages_Free:        3\n"
      ++ codes "HugePages_Rsvd:        2\nHugePages_Surp:        0\nHugepagesize:          1 kB\nHugetlb:               4 kB\n";
}

abbrev pub surplus_pages_all_in_use : Worked
surplus_pages_all_in_use = record {
  machine = machine;
  input =
      codes "nr 4\nconnect 1 0\nconnect 2 1\ncreate 0 a\nmap 1 0 a 0 3 shared\nmeminfo\nstore 1 0 1 0 0 ff\nmeminfo\n"
      ++ codes "load 1 0 1 0 0 2\nnodes\ncreate 0 b\nmap 2 0 b 0 2 shared\nstat 0 b\novercommit 1\nmap 2 0 b 0 2 shared\n"
      ++ codes "meminfo\nnodes\nnr 1\nmeminfo\nnodes\nstore 1 0 1 1 0 01\nstore 1 0 1 2 0 02\nstore 2 0 1 0 0 03\n"
      ++ codes "store 2 0 1 1 0 04\nmeminfo\ncreate 0 c\nmap 1 0 c 0 1 shared noreserve\nfault 1 0 2 0 read\nnr 0\nmeminfo\n"
      ++ codes "nodes\n";
  replies =
      codes "ok 4\nok\nok\nok\nok 1\ntext 6\nHugePages_Total:       4\nHugePages_Free:        4\nHugePages_Rsvd:        3\n"
      ++ codes "HugePages_Surp:        0\nHugepagesize:          1 kB\nHugetlb:               4 kB\nok\ntext 6\n"
      ++ codes "HugePages_Total:       4\nHugePages_Free:        3\nHugePages_Rsvd:        2\nHugePages_Surp:        0\n"
      ++ codes "Hugepagesize:          1 kB\nHugetlb:               4 kB\nok ff00\ntext 2\n0 2 1 0\n1 2 2 0\nok\n"
      ++ codes "error 2 NoPages\nok 0 0 0 0\nok\nok 1\ntext 6\nHugePages_Total:       5\nHugePages_Free:        4\n"
      ++ codes "HugePages_Rsvd:        4\nHugePages_Surp:        1\nHugepagesize:          1 kB\nHugetlb:               5 kB\n"
      ++ codes "text 2\n0 2 1 0\n1 3 3 1\nok 1\ntext 6\nHugePages_Total:       5\nHugePages_Free:        4\n"
      ++ codes "HugePages_Rsvd:        4\nHugePages_Surp:        4\nHugepagesize:          1 kB\nHugetlb:               5 kB\n"
      ++ codes "text 2\n0 2 1 2\n1 3 3 2\nok\nok\nok\nok\ntext 6\nHugePages_Total:       5\nHugePages_Free:        0\n"
      ++ codes "HugePages_Rsvd:        0\nHugePages_Surp:        4\nHugepagesize:          1 kB\nHugetlb:               5 kB\n"
      ++ codes "ok\nok 2\nerror 2 NoPages\nok 0\ntext 6\nHugePages_Total:       5\nHugePages_Free:        0\n"
      ++ codes "HugePages_Rsvd:        0\nHugePages_Surp:        5\nHugepagesize:          1 kB\nHugetlb:               5 kB\n"
      ++ codes "text 2\n0 2 0 2\n1 3 0 3\n";
}

abbrev pub surplus_pages_leave_the_pool : Worked
surplus_pages_leave_the_pool = record {
  machine = machine;
  input =
      codes "nr 4\nconnect 1 0\nconnect 2 1\ncreate 0 a\nmap 1 0 a 0 3 shared\nmeminfo\nstore 1 0 1 0 0 ff\nmeminfo\n"
      ++ codes "load 1 0 1 0 0 2\nnodes\ncreate 0 b\nmap 2 0 b 0 2 shared\nstat 0 b\novercommit 1\nmap 2 0 b 0 2 shared\n"
      ++ codes "meminfo\nnodes\nnr 1\nmeminfo\nnodes\nstore 1 0 1 1 0 01\nstore 1 0 1 2 0 02\nstore 2 0 1 0 0 03\n"
      ++ codes "store 2 0 1 1 0 04\nmeminfo\ncreate 0 c\nmap 1 0 c 0 1 shared noreserve\nfault 1 0 2 0 read\nnr 0\nmeminfo\n"
      ++ codes "nodes\nunmap 1 0 1 0 3\nunmap 2 0 1 0 2\nmeminfo\nunlink 0 a\nmeminfo\nnodes\nunlink 0 b\nmeminfo\n";
  replies =
      codes "ok 4\nok\nok\nok\nok 1\ntext 6\nHugePages_Total:       4\nHugePages_Free:        4\nHugePages_Rsvd:        3\n"
      ++ codes "HugePages_Surp:        0\nHugepagesize:          1 kB\nHugetlb:               4 kB\nok\ntext 6\n"
      ++ codes "HugePages_Total:       4\nHugePages_Free:        3\nHugePages_Rsvd:        2\nHugePages_Surp:        0\n"
      ++ codes "Hugepagesize:          1 kB\nHugetlb:               4 kB\nok ff00\ntext 2\n0 2 1 0\n1 2 2 0\nok\n"
      ++ codes "error 2 NoPages\nok 0 0 0 0\nok\nok 1\ntext 6\nHugePages_Total:       5\nHugePages_Free:        4\n"
      ++ codes "HugePages_Rsvd:        4\nHugePages_Surp:        1\nHugepagesize:          1 kB\nHugetlb:               5 kB\n"
      ++ codes "text 2\n0 2 1 0\n1 3 3 1\nok 1\ntext 6\nHugePages_Total:       5\nHugePages_Free:        4\n"
      ++ codes "HugePages_Rsvd:        4\nHugePages_Surp:        4\nHugepagesize:          1 kB\nHugetlb:               5 kB\n"
      ++ codes "text 2\n0 2 1 2\n1 3 3 2\nok\nok\nok\nok\ntext 6\nHugePages_Total:       5\nHugePages_Free:        0\n"
      ++ codes "HugePages_Rsvd:        0\nHugePages_Surp:        4\nHugepagesize:          1 kB\nHugetlb:               5 kB\n"
      ++ codes "ok\nok 2\nerror 2 NoPages\nok 0\ntext 6\nHugePages_Total:       5\nHugePages_Free:        0\n"
      ++ codes "HugePages_Rsvd:        0\nHugePages_Surp:        5\nHugepagesize:          1 kB\nHugetlb:               5 kB\n"
      ++ codes "text 2\n0 2 0 2\n1 3 0 3\nok\nok\ntext 6\nHugePages_Total:       5\nHugePages_Free:        0\n"
      ++ codes "HugePages_Rsvd:        0\nHugePages_Surp:        5\nHugepagesize:          1 kB\nHugetlb:               5 kB\n"
      ++ codes "ok\ntext 6\nHugePages_Total:       2\nHugePages_Free:        0\nHugePages_Rsvd:        0\n"
      ++ codes "HugePages_Surp:        2\nHugepagesize:          1 kB\nHugetlb:               2 kB\ntext 2\n0 0 0 0\n1 2 0 2\n"
      ++ codes "ok\ntext 6\nHugePages_Total:       0\nHugePages_Free:        0\nHugePages_Rsvd:        0\n"
      ++ codes "HugePages_Surp:        0\nHugepagesize:          1 kB\nHugetlb:               0 kB\n";
}

abbrev pub truncate_and_lengthen_again : Worked
truncate_and_lengthen_again = record {
  machine = machine;
  input =
      codes "nr 4\nconnect 1 0\nconnect 2 1\ncreate 0 a\nmap 1 0 a 0 3 shared\nstore 1 0 1 2 0 05\nmeminfo\n"
      ++ codes "truncate 0 a 1\nmeminfo\nload 1 0 1 2 0 1\ntruncate 0 a 3\nload 1 0 1 2 0 1\nmeminfo\n";
  replies =
      codes "ok 4\nok\nok\nok\nok 1\nok\ntext 6\nHugePages_Total:       4\nHugePages_Free:        3\n"
      ++ codes "HugePages_Rsvd:        2\nHugePages_Surp:        0\nHugepagesize:          1 kB\nHugetlb:               4 kB\n"
      ++ codes "ok\ntext 6\nHugePages_Total:       4\nHugePages_Free:        4\nHugePages_Rsvd:        1\n"
      ++ codes "HugePages_Surp:        0\nHugepagesize:          1 kB\nHugetlb:               4 kB\nerror 4 BeyondEnd\nok\n"
      ++ codes "ok 00\ntext 6\nHugePages_Total:       4\nHugePages_Free:        3\nHugePages_Rsvd:        1\n"
      ++ codes "HugePages_Surp:        0\nHugepagesize:          1 kB\nHugetlb:               4 kB\n";
}

abbrev pub unlinked_file_lives_with_its_maps : Worked
unlinked_file_lives_with_its_maps = record {
  machine = machine;
  input =
      codes "nr 4\nconnect 1 0\nconnect 2 1\ncreate 0 a\nmap 1 0 a 0 2 shared\nstore 1 0 1 0 0 09\nmeminfo\n"
      ++ codes "map 2 0 a 0 2 shared\nmeminfo\nls 0\nunlink 0 a\nmeminfo\nls 0\nload 1 0 1 0 0 1\ncreate 0 a\nstat 0 a\n"
      ++ codes "unmap 1 0 1 0 2\nunmap 2 0 1 1 2\nmeminfo\nunmap 2 0 1 0 1\nmeminfo\n";
  replies =
      codes "ok 4\nok\nok\nok\nok 1\nok\ntext 6\nHugePages_Total:       4\nHugePages_Free:        3\n"
      ++ codes "HugePages_Rsvd:        1\nHugePages_Surp:        0\nHugepagesize:          1 kB\nHugetlb:               4 kB\n"
      ++ codes "ok 1\ntext 6\nHugePages_Total:       4\nHugePages_Free:        3\nHugePages_Rsvd:        1\n"
      ++ codes "HugePages_Surp:        0\nHugepagesize:          1 kB\nHugetlb:               4 kB\ntext 1\na\nok\ntext 6\n"
      ++ codes "HugePages_Total:       4\nHugePages_Free:        3\nHugePages_Rsvd:        1\nHugePages_Surp:        0\n"
      ++ codes "Hugepagesize:          1 kB\nHugetlb:               4 kB\ntext 0\nok 09\nok\nok 0 0 0 0\nok\nok\ntext 6\n"
      ++ codes "HugePages_Total:       4\nHugePages_Free:        3\nHugePages_Rsvd:        1\nHugePages_Surp:        0\n"
      ++ codes "Hugepagesize:          1 kB\nHugetlb:               4 kB\nok\ntext 6\nHugePages_Total:       4\n"
      ++ codes "HugePages_Free:        4\nHugePages_Rsvd:        0\nHugePages_Surp:        0\nHugepagesize:          1 kB\n"
      ++ codes "Hugetlb:               4 kB\n";
}
