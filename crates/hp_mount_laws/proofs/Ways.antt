use Rattle.std.proofs.lemmas.Grind.{common_steps}
-- The ways that a plan goes through a door, as code takes them. Nothing here names a command.
use Rattle.std.proofs.Common.{◌≡◌, ℕ, suc, ◌<◌, ◌==◌, Bool, true, false, cond, Some, None, Ok, Err, List, [], ◌∷◌, refl, sym, ap, subst, ◌∙◌, arith, ◌||◌, sum}
use Rattle.std.proofs.lemmas.List.Sums.{sum_by-cons}
use Rattle.hp_laws.proofs.Variants.{Answer, GrantPage, PoolAnswer, Refusal, Section, TakePage}
use Rattle.hp_model.specs.declared.refusal.Refusal.TheVariants as r
use Rattle.hp_model.proofs.Words.{Answered, Ask, Choice, Finish, Gives, IsFresh, Mount, Outcome, Plan, Refused, Reply, Slot, ThroughDoor, and_then, continued, grant_page, granted_at, is_among}
use Rattle.hp_model.proofs.Words.{is_full, no_pages, refuse, reserved_page, rise, stamps_in, when_granted}
use Rattle.hp_mount_laws.specs.Alone.{EndsAtOnce}
use Rattle.hp_mount_laws.specs.Done.{Enters, Tried}

-- ---- a fresh stamp

not_both : (n m : ℕ) → n < m → (n == m) ≡ false
not_both n m l = grind (arith, l)

above_all : (n : ℕ) (xs : List ℕ) → sum xs < n → is_among n xs ≡ false
above_all n [] l = refl
above_all n (x ∷ xs) l =
    let parts = sum_by-cons (λ (k : ℕ). k) x xs in
    ap (λ b. b || is_among n xs) (not_both x n (omega (arith, l, parts))) ∙ above_all n xs (omega (arith, l, parts))

-- a choice with a stamp that no map holds
abbrev pub fresh_choice : Bool → Slot → Choice
fresh_choice refused old = record { stamp = suc (sum (stamps_in old)); refused = refused; after_grant = false }

pub is_fresh : (refused : Bool) (old : Slot) → IsFresh (fresh_choice refused old) old
is_fresh refused old = let e : is_among (suc (sum (stamps_in old))) (stamps_in old) ≡ false = above_all (suc (sum (stamps_in old))) (stamps_in old) (omega arith) in rw e refl

-- ---- one plan

module _ {X : Type 0} (took : X → Section → PoolAnswer → X → Type 0) (m : Mount) where
  abbrev goes : Plan → X → Reply → Slot → X → Type 0
  goes p door reply new left = ThroughDoor took p (Some m) door reply new left

  pub refused_at : (e : Refusal) (door : X) → goes (refuse e) door (Err e) (Some m) door
  refused_at e door = ((refl, refl), refl)

  -- a page by a grant
  module _ (c : Choice) (home : ℕ) (f : ℕ → Outcome) (door : X) where
    abbrev asks : Plan
    asks = Ask (λ nr. GrantPage home (rise m 1)) (λ a. when_granted (f a.node) a)

    tests : (full refused : Bool) → is_full m 1 ≡ full → c.refused ≡ refused → (reply : Reply) (new : Slot) (left : X)
        → goes (cond full (refuse r.MountFull) (cond refused (refuse r.OutOfMemory) asks)) door reply new left → goes (grant_page c m home f) door reply new left
    tests full refused e z reply new left h = grind (arith, common_steps)

    pub page_full : is_full m 1 ≡ true → goes (grant_page c m home f) door (Err r.MountFull) (Some m) door
    page_full e = tests true c.refused e refl (Err r.MountFull) (Some m) door (refused_at r.MountFull door)

    pub page_without_memory : is_full m 1 ≡ false → c.refused ≡ true → goes (grant_page c m home f) door (Err r.OutOfMemory) (Some m) door
    page_without_memory e z = tests false true e z (Err r.OutOfMemory) (Some m) door (refused_at r.OutOfMemory door)

    -- it asks for one
    pub page_asks : is_full m 1 ≡ false → c.refused ≡ false → Enters (grant_page c m home f)
    page_asks e z = grind (arith, common_steps)

    pub page_denied : (left : X) → is_full m 1 ≡ false → c.refused ≡ false → took door (GrantPage home (rise m 1)) no_pages left → goes (grant_page c m home f) door (Err r.NoPages) (Some m) left
    page_denied left e z t = tests false false e z (Err r.NoPages) (Some m) left (no_pages, t, (refl, refl))

    pub page_granted : (left : X) (node : ℕ) (reply : Reply) (new : Slot) → is_full m 1 ≡ false → c.refused ≡ false →
        took door (GrantPage home (rise m 1)) (granted_at node) left → Gives (f node) (Some m) reply new →
        goes (grant_page c m home f) door reply new left
    page_granted left node reply new e z t h = tests false false e z reply new left (granted_at node, t, h)

    -- a page by a reservation
    pub page_reserved : (left : X) (node : ℕ) (reply : Reply) (new : Slot) → took door (TakePage home) (granted_at node) left →
        Gives (f node) (Some m) reply new → goes (reserved_page home f) door reply new left
    page_reserved left node reply new t h = (granted_at node, t, h)

  -- ---- what follows an access, whatever it is

  gives_then : (f : Mount → Outcome) (o : Outcome) (a : Answer) (n : Mount) (reply : Reply) (new : Slot) → Gives o (Some m) (Ok a) (Some n) →
      Gives (f n) (Some m) reply new → Gives (continued f o) (Some m) reply new
  gives_then f (Refused e) a n reply new h g = absurd (not_ok h.0)
    where
      not_ok : {a : Answer} {e : Refusal} → Ok a ≡ Err e → ⊥
      not_ok h = cc
  gives_then f (Answered b None) a n reply new h g = absurd (not_none h.1)
    where
      not_none : Some n ≡ None → ⊥
      not_none h = cc
  gives_then f (Answered b (Some k)) a n reply new h g = (let same : n ≡ k = some_is n k h.1 in subst (λ x. Gives (f x) (Some m) reply new) same g)
    where
      some_is : (x y : Mount) → Some x ≡ Some y → x ≡ y
      some_is x y h = cc

  gives_no : (f : Mount → Outcome) (o : Outcome) (e : Refusal) (new : Slot) → Gives o (Some m) (Err e) new → Gives (continued f o) (Some m) (Err e) new
  gives_no f (Refused x) e new h = h
  gives_no f (Answered a s) e new h = absurd (not_err h.0)
    where
      not_err : {a : Answer} {e : Refusal} → Err e ≡ Ok a → ⊥
      not_err h = cc

  -- the access was answered, and the rest follows on the mount that it left
  pub then_goes : (f : Mount → Outcome) (p : Plan) (door left : X) (a : Answer) (n : Mount) (reply : Reply) (new : Slot) →
      goes p door (Ok a) (Some n) left → Gives (f n) (Some m) reply new → goes (and_then f p) door reply new left
  then_goes f (Finish o) door left a n reply new h g = (gives_then f o a n reply new h.0 g, h.1)
  then_goes f (Ask s k) door left a n reply new h g = (h.0, h.1, gives_then f (k h.0) a n reply new h.2 g)

  -- it was refused
  pub then_refused : (f : Mount → Outcome) (p : Plan) (door left : X) (e : Refusal) (new : Slot) → goes p door (Err e) new left → goes (and_then f p) door (Err e) new left
  then_refused f (Finish o) door left e new h = (gives_no f o e new h.0, h.1)
  then_refused f (Ask s k) door left e new h = (h.0, h.1, gives_no f (k h.0) e new h.2)

-- what follows a plan enters a section where the plan does
pub then_enters : (f : Mount → Outcome) (p : Plan) → Enters p → Enters (and_then f p)
then_enters f (Finish o) h = absurd h
then_enters f (Ask s k) h = tt

-- an event that asks nothing of the pool leaves the door as it was, whichever it is
pub alone_is_done : {X : Type 0} (took : X → Section → PoolAnswer → X → Type 0) (full : X → Type 0) (plan : Choice → Plan) (old new : Slot) (door : X) (reply : Reply)
    → (reply ≡ Err r.TraceFull → ⊥) → EndsAtOnce plan old reply new → Tried took full plan old door reply new door
alone_is_done took full plan old new door (Ok a) noted h = (h.choice, h.fresh, subst (λ p. ThroughDoor took p old door (Ok a) new door) (sym h.ends) (h.gives, refl))
alone_is_done took full plan old new door (Err r.TraceFull) noted h = absurd (noted refl)
alone_is_done took full plan old new door (Err other) noted h = (h.choice, h.fresh, subst (λ p. ThroughDoor took p old door (Err other) new door) (sym h.ends) (h.gives, refl))
