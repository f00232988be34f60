-- What a session is told of faults that follow one another.
use Rattle.std.proofs.Common.{◌≡◌, ℕ, zero, suc, Ok, List, [], ◌∷◌, ◌++◌, length, refl, sym, ap, subst}
use Rattle.hp_laws.proofs.Variants.{Done, Receipt}
use Rattle.hp_events.specs.Queues.{IsFoundAndHanded}
use Rattle.hp_shared.specs.Runs.{AreFaultsDone, Faults, IsFaultDone, SeatedMount, fault_in_run, look_receipt}
use Rattle.hp_shared.specs.Seated.{slot_receipt}
use Rattle.hp_entrance.specs.Runs.{AreFaultsHanded}
use Rattle.hp_entrance.proofs.Handed.{finds}

one_handed : (size : ℕ) (f : Faults) (i : ℕ) (a b : SeatedMount) → IsFaultDone size f i a b → IsFoundAndHanded size f.slot f.task (λ home. fault_in_run f home i) (Ok Done) a.seats.told b.seats.told
one_handed size f i a b r = record {
  home = r.home;
  between = a.seats.told ++ look_receipt f.task r.home ∷ [];
  found = ((0, (f.task, r.home) ∷ [], (f.task, r.home) ∷ [], finds f.task r.home), (look_receipt f.task r.home, refl, refl));
  handed = (
    (a.mount, _, b.mount, r.went),
    (slot_receipt f.slot (fault_in_run f r.home i) (Ok Done) (length a.seats.run), ap (λ s. s.told) r.seats, refl),
  );
}

-- it is told of those that a slot did
pub run_handed : (size : ℕ) (f : Faults) (i n : ℕ) (a b : SeatedMount) → AreFaultsDone size f i n a b → AreFaultsHanded size f.slot f i n a.seats.told b.seats.told
run_handed size f i zero a b h = ap (λ (r : SeatedMount). r.seats.told) h
run_handed size f i (suc n) a b h = (h.0.seats.told, one_handed size f i a h.0 h.1, run_handed size f (suc i) n h.0 b h.2)

-- the same of the lists that these are
pub run_as : (size at : ℕ) (f : Faults) (i n : ℕ) (was was' now now' : List Receipt) → was ≡ was' → now ≡ now' → AreFaultsHanded size at f i n was' now' → AreFaultsHanded size at f i n was now
run_as size at f i n was was' now now' a b h =
    subst (λ x. AreFaultsHanded size at f i n x now) (sym a) (subst (λ y. AreFaultsHanded size at f i n was' y) (sym b) h)
