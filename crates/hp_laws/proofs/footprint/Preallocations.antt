-- What a preallocation changes: each index of the range has the page that it had, or one of zeros.
use Rattle.std.proofs.Common.{arith, ◌≡◌, ⊎_elim, subst, ℕ, ◌-◌, ◌<◌, ◌≤◌, ◌&&◌, ◌==◌, not, true, false, None, Some, Ok, List, [], ◌∷◌, ◌++◌, drop, length, replicate, refl, sym, ap}
use Rattle.std.proofs.Common.{◌∙◌, if◌then◌else◌}
use Rattle.std.proofs.lemmas.Bool.{eqb-true}
use Rattle.std.proofs.lemmas.List.{append-nil}
use Rattle.hp_laws.proofs.Variants.{Answer, Cell, Done, Entered, Hole, MountFull, NoSuchFile, OutOfMemory, OutOfRange, Present, Slot as OnSlot}
use Rattle.hp_model.specs.declared.event.SlotEvent.TheVariants as slot
use Rattle.hp_model.specs.declared.step.Step.TheVariants as step
use Rattle.hp_model.proofs.Words.{Answered, Choice, File, Finish, IsEvent, Mount, Page, Slot, State, at_least, cell_at, cell_in, file_named, fill, has_name, has_page, is_bad_range, is_full}
use Rattle.hp_model.proofs.Words.{is_in, lacking, preallocate}
use Rattle.hp_model.proofs.Words.{preallocate_tests, range_filled, rise, rising_nodes, slot_at, slot_event, unentered, unless, with_file, zeros}
use Rattle.hp_laws.proofs.accesses.SlotShows.{always_fill, always_unless, always_value}
use Rattle.hp_laws.proofs.counts.Filled.{filled_index, filled_there, length-filled, length-longer, same_longer}
use Rattle.hp_laws.proofs.counts.MountMoves.{file_at}
use Rattle.hp_laws.proofs.lists.Fills.{IsNew}
use Rattle.hp_laws.proofs.lists.NodesOf.{length-nodes_of}
use Rattle.hp_laws.proofs.making.FilesMade.{long_enough}
use Rattle.hp_laws.proofs.steps.Outcomes.{Always, always_if, always_test}
use Rattle.hp_model.specs.machine.Footprint.{Changes, LeavesMount, There, with_pages_there}
use Rattle.hp_laws.proofs.footprint.Landings.{Comes, always_here, comes, leaves, there_at, there_weaker}
use Rattle.hp_laws.proofs.footprint.Ranges.{at_each_is, file_itself}

abbrev node_in : Cell Page → ℕ
node_in Hole = 0
node_in Entered = 0
node_in (Present page) = page.node

module _ (size a b : ℕ) where
  -- the page that an index has afterwards
  abbrev after : (ℕ → ℕ) → ℕ → Cell Page → Cell Page
  after node i c = if is_in a b i && not (has_page c) then Present (record { node = node i; bytes = zeros size }) else c

  -- it has one, and so stays; or it had none, and has this one
  stays : (node : ℕ → ℕ) (i : ℕ) (c d : Cell Page) → (is_in a b i ≡ true → has_page d ≡ true) → d ≡ c → d ≡ after node i c
  stays node i c d there same = grind arith

  is_new : (node : ℕ → ℕ) (i : ℕ) (c d : Cell Page) (page : Page) → a ≤ i → i < b → has_page c ≡ false → d ≡ Present page → page.bytes ≡ zeros size → node i ≡ node_in d → d ≡ after node i c
  is_new node i c d page low high lacked is zero at = grind arith

  module _ (nodes : List ℕ) (f : File) (all : length nodes ≡ lacking a b f) where
    abbrev filled : File
    filled = range_filled size a b nodes f

    abbrev nodes_there : ℕ → ℕ
    nodes_there i = node_in (cell_at filled i)

    in_range : (i : ℕ) → is_in a b i ≡ true → (a ≤ i) × (i < b)
    in_range i e = grind arith

    each : (i : ℕ) → cell_at filled i ≡ after nodes_there i (cell_at f i)
    each i =
        ⊎_elim
        (λ (same : cell_at filled i ≡ cell_at f i). stays nodes_there i (cell_at f i) (cell_at filled i)
        (λ e. (let within = in_range i e in filled_there size a b nodes f all i within.0 within.1)) same)
        (λ (new : IsNew a b (λ p. p.bytes ≡ zeros size) f.cells filled.cells i). is_new nodes_there i (cell_at f i) (cell_at filled i) new.page new.low new.high new.lacked new.is new.holds refl)
        (filled_index size a b nodes f all i)

    pub filled_is : filled ≡ with_pages_there size a b nodes_there f
    filled_is =
        ap (λ cells. record f { cells = cells })
        (at_each_is (after nodes_there) Hole 0 (at_least b f.cells) filled.cells (length-filled size a b nodes f all ∙ sym (length-longer size a b nodes f))
        (λ i n e l. subst (λ j. cell_in filled.cells i ≡ after nodes_there j (cell_in (at_least b f.cells) i)) (let same : i ≡ n = omega (arith, e) in same)
        (each i ∙ ap (after nodes_there i) (sym (same_longer size a b nodes f i)))))

-- ---- on a mount

module _ (m : Mount) (name : List ℕ) (q : ℕ × File) (named : file_named m name ≡ Some q) where
  -- where all have one, nothing changes
  whole_is : (size a b : ℕ) → is_bad_range a b ≡ false → (none : lacking a b q.1 ≡ 0) → m ≡ with_file m q.0 (with_pages_there size a b (nodes_there size a b [] q.1 (sym none)) q.1)
  whole_is size a b good none =
      let long = long_enough m name a b q named good none in
      let no_more : b - length q.1.cells ≡ 0 = omega (arith, long) in
      let same : range_filled size a b [] q.1 ≡ q.1 = ap (λ n. record q.1 { cells = q.1.cells ++ replicate n Hole }) no_more ∙ ap (λ cells. record q.1 { cells = cells }) (append-nil q.1.cells) in
      sym (file_itself m q.0 q.1 (file_at m (has_name name) q named)) ∙ ap (λ f. with_file m q.0 f) (sym same ∙ filled_is size a b [] q.1 (sym none))

-- ---- the step

module _ (s : State) (k : ℕ) (name : List ℕ) (a b : ℕ) where
  abbrev Filled : ℕ → Mount → ℕ × File → Slot → Type 0
  Filled size m f new = (node : ℕ → ℕ) × (new ≡ Some (with_file m f.0 (with_pages_there size a b node f.1)))

  abbrev Fills : ℕ → Slot → Answer → Slot → Type 0
  Fills size old answer new = There old (λ m. There (file_named m name) (λ f. Filled size m f new))

  fill_all : (size : ℕ) (c : Choice) (old : Slot) → Always (Comes (Fills size old)) (slot_event size k c old (slot.Preallocate name a b))
  fill_all size c None = tt
  fill_all size c (Some m) =
      let P = Comes (Fills size (Some m)) in
      always_value P (λ r. tt) (file_named m name) NoSuchFile (preallocate c size m a b)
      (λ q named. (let goes = if lacking a b q.1 == 0 then Finish (Answered Done (Some m)) else fill c size m a b q in
      let filled_by : List ℕ → File = λ pages. range_filled size a b (rising_nodes (lacking a b q.1) pages) q.1 in
      always_test P (is_bad_range a b) OutOfRange (unless (drop 1 (preallocate_tests a b)) goes) tt
      (λ good. always_unless P (λ r. tt) (drop 1 (preallocate_tests a b)) goes
      (always_if P (lacking a b q.1 == 0) (Finish (Answered Done (Some m))) (fill c size m a b q)
      (λ e. (let none = eqb-true (lacking a b q.1) 0 e in
      there_at (λ f. Filled size m f (Some m)) (file_named m name) q named (nodes_there size a b [] q.1 (sym none), ap Some (whole_is m name q named size a b good none))))
      (λ e. always_fill P (λ r. tt) ((is_full m (unentered a b q.1), MountFull) ∷ (c.refused, OutOfMemory) ∷ []) (rise m (unentered a b q.1)) (lacking a b q.1)
      (λ pages. Answered Done (Some (with_file m q.0 (filled_by pages))))
      (λ pages. (let nodes = rising_nodes (lacking a b q.1) pages in
      let all = length-nodes_of (lacking a b q.1) pages in
      there_at (λ f. Filled size m f (Some (with_file m q.0 (filled_by pages)))) (file_named m name) q named
      (nodes_there size a b nodes q.1 all, ap (λ f. Some (with_file m q.0 f)) (filled_is size a b nodes q.1 all)))))))))

  pub preallocate_changes : (answer : Answer) (t : State) → IsEvent s (OnSlot k (slot.Preallocate name a b)) (Ok answer) t → Changes s (step.Preallocate k name a b) answer t
  preallocate_changes answer t is =
      let R = Fills s.page_size (slot_at s k) in
      let l = comes R s k answer t (slot.Preallocate name a b) (λ c fresh. always_here s (Comes R) _ (fill_all s.page_size c (slot_at s k))) is in
      there_weaker (λ m. There (file_named m name) (λ f. Filled s.page_size m f l.0))
      (λ m. There (file_named m name) (λ f. (node : ℕ → ℕ) × LeavesMount s k (with_file m f.0 (with_pages_there s.page_size a b node f.1)) t)) (slot_at s k)
      (λ m there h. there_weaker (λ f. Filled s.page_size m f l.0) (λ f. (node : ℕ → ℕ) × LeavesMount s k (with_file m f.0 (with_pages_there s.page_size a b node f.1)) t) (file_named m name)
      (λ f found q. (q.0, leaves s k t l.0 (with_file m f.0 (with_pages_there s.page_size a b q.0 f.1)) q.1 l.1.1)) h) l.1.0
