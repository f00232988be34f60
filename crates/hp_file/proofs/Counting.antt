use Rattle.std.proofs.lemmas.Grind.{common_steps}
-- Holders that go and come, with those beyond the first counted.
use Rattle.std.proofs.Common.{◌≡◌, ℕ, ◌+◌, ◌<◌, ◌≤◌, arith}
use Rattle.hp_store.specs.Store.{dropped, holders_of, page_at}
use Rattle.hp_lookup.proofs.Words.{more_in}
use Rattle.hp_file.specs.HeldPages.{AreDropped, AreHeld, AreShared}
use Rattle.hp_file.specs.declared.held_pages.HeldPages.{HeldPages}
use Rattle.hp_file.proofs.Drops.{drop_as, drop_next, drop_start, drop_then, one_at, still_held}
use Rattle.hp_file.proofs.Sharing.{share_none, share_then}

module _ {N : Type 0} {total : ℕ → ℕ} {old : HeldPages N} (h : AreHeld total old) where
  -- a part of them
  pub part_held : {part : ℕ → ℕ} → ((n : ℕ) → part n ≤ total n) → AreHeld part old
  part_held less = record { held = λ n. (let all = h.held n in let most = less n in omega (arith, all, most)); some = h.some; counted = h.counted }

  pub none_dropped : AreDropped total total old old
  none_dropped = record { dropping = drop_start total old.store h.some; counted = h.counted }

  pub none_shared : AreShared (λ n. 0) 0 old old
  none_shared = record { sharing = share_none old.store h.some; counted = h.counted; more = omega arith }

  module _ {before : ℕ → ℕ} {mid : HeldPages N} (d : AreDropped total before old mid) where
    -- those that are left
    pub left_held : AreHeld before mid
    left_held = record { held = λ n. (let all = h.held n in let had = d.dropping.held n in omega (arith, all, had)); some = d.dropping.some; counted = d.counted }

    module _ (number : ℕ) (after : ℕ → ℕ) (parts : (n : ℕ) → before n ≡ after n + one_at number n) where
      pub one_held : 0 < holders_of (page_at mid.store number)
      one_held = still_held total before after old.store mid.store d.dropping number (h.held number) parts

      pub one_dropped : {now : HeldPages N} → now.store ≡ dropped number mid.store → now.more ≡ more_in now.store.pages → AreDropped total after old now
      one_dropped {now} is counted = record { dropping = drop_next total before after old.store mid.store d.dropping number (h.held number) parts now.store is; counted = counted }

-- counted otherwise, with what stays as it is or without it
pub dropped_as : {N : Type 0} {t l total left : ℕ → ℕ} {old now : HeldPages N} → AreDropped t l old now → ((n : ℕ) → t n + left n ≡ l n + total n) → AreDropped total left old now
dropped_as {N} {t} {l} {total} {left} {old} {now} d parts = record { dropping = drop_as t l total left old.store now.store d.dropping parts; counted = d.counted }

-- one part after another
pub dropped_then : {N : Type 0} {t1 l1 t2 l2 total left : ℕ → ℕ} {old mid now : HeldPages N} → AreDropped t1 l1 old mid → AreDropped t2 l2 mid now →
    ((n : ℕ) → t1 n + t2 n + left n ≡ l1 n + l2 n + total n) → AreDropped total left old now
dropped_then {N} {t1} {l1} {t2} {l2} {total} {left} {old} {mid} {now} d p parts =
    record { dropping = drop_then t1 l1 t2 l2 total left old.store mid.store now.store d.dropping p.dropping parts; counted = p.counted }

pub shared_more : {N : Type 0} {a b all : ℕ → ℕ} {i j k : ℕ} {old mid now : HeldPages N} → AreShared a i old mid → AreShared b j mid now →
    ((n : ℕ) → a n + b n ≡ all n) → i + j ≡ k → AreShared all k old now
shared_more {N} {a} {b} {all} {i} {j} {k} {old} {mid} {now} first then sum count = grind (arith, common_steps, share_then)
