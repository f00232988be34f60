-- One item more, and the end of the walk.
use Rattle.std.proofs.lemmas.Grind.{common_steps}
use Rattle.std.proofs.Common.{◌≡◌, ℕ, zero, suc, ◌+◌, ◌<◌, ◌≤◌, Option, None, Some, List, [], ◌∷◌, ◌++◌, length, take, refl, sym, ap, ◌∙◌, subst, arith, slice_get}
use Rattle.std.proofs.lemmas.List.Elements.{All-append, All-cons, All-nil}
use Rattle.hp_laws.proofs.Variants.{Part, Receipt}
use Rattle.hp_model.proofs.Words.{Item, Joins, Trails, keep, numbered, option_cons, slot_trail}
use Rattle.hp_trail.specs.Walk.{Cursors, cursor_at, Walked, GoesNumbered, GoesOn, Passes, HaveEnded, Took, at_start, WalkedBy}
use Rattle.hp_trail.proofs.Indexing.{map_snoc, some_is, zeros_at}

pub keep_snoc : {X Y : Type 0} (f : X → Option Y) (xs : List X) (x : X) → keep f (xs ++ x ∷ []) ≡ keep f xs ++ option_cons (f x) []
keep_snoc f [] x = refl
keep_snoc f (y ∷ ys) x = ap (option_cons (f y)) (keep_snoc f ys x) ∙ over (f y) (keep f ys) (option_cons (f x) [])
  where
    over : {Y : Type 0} (o : Option Y) (xs ys : List Y) → option_cons o (xs ++ ys) ≡ option_cons o xs ++ ys
    over None xs ys = refl
    over (Some y) xs ys = refl

take_snoc : {X : Type 0} (xs : List X) (c : ℕ) (x : X) → slice_get xs c ≡ Some x → take (c + 1) xs ≡ take c xs ++ x ∷ []
take_snoc [] c x e = cc
take_snoc (y ∷ ys) zero x e = ap (λ z. z ∷ []) (some_is y x e)
take_snoc (y ∷ ys) (suc c) x e =
    let more : suc c + 1 ≡ suc (c + 1) = omega arith in
    ap (λ n. take n (y ∷ ys)) more ∙ ap (λ zs. y ∷ zs) (take_snoc ys c x e)

numbered_snoc : {X : Type 0} (a c : ℕ) (xs : List X) (x : X) → slice_get xs c ≡ Some x → numbered a (take (c + 1) xs) ≡ numbered a (take c xs) ++ (a + c, x) ∷ []
numbered_snoc a c [] x e = cc
numbered_snoc a zero (y ∷ ys) x e = grind (arith, common_steps)
numbered_snoc a (suc c) (y ∷ ys) x e =
    let place : a + 1 + c ≡ a + suc c = omega arith in
    let more : suc c + 1 ≡ suc (c + 1) = omega arith in
    ap (λ n. numbered a (take n (y ∷ ys))) more ∙ ap (λ zs. (a, y) ∷ zs) (numbered_snoc (a + 1) c ys x e ∙ ap (λ n. numbered (a + 1) (take c ys) ++ (n, x) ∷ []) place)

pub goes : {X : Type 0} (f : Item → Option (ℕ × X)) (items : List Item) (i : Item) (xs : List X) (c d : ℕ) (o : Option (ℕ × X)) → f i ≡ o
    → keep f items ≡ numbered 0 (take c xs) → GoesNumbered xs c o d
    → keep f (items ++ i ∷ []) ≡ numbered 0 (take d xs)
goes f items i xs c d None is so_far h = grind (arith, common_steps, keep_snoc)
goes f items i xs c d (Some p) is so_far h =
    let pair : (c, p.1) ≡ p = ap (λ n. (n, p.1)) (sym h.0) in
    let zero_more : c ≡ 0 + c = omega arith in
    keep_snoc f items i ∙ ap (λ o. keep f items ++ option_cons o []) is ∙ ap (λ ys. ys ++ p ∷ []) so_far
    ∙ ap (λ q. numbered 0 (take c xs) ++ q ∷ []) (sym pair ∙ ap (λ n. (n, p.1)) zero_more) ∙ sym (numbered_snoc 0 c xs p.1 h.1) ∙ ap (λ n. numbered 0 (take n xs)) (sym h.2)

pub goes_on : {X : Type 0} (f : Item → Option X) (items : List Item) (i : Item) (xs : List X) (c d : ℕ) (o : Option X) → f i ≡ o → keep f items ≡ take c xs → GoesOn xs c o d
    → keep f (items ++ i ∷ []) ≡ take d xs
goes_on f items i xs c d None is so_far h = grind (arith, common_steps, keep_snoc)
goes_on f items i xs c d (Some x) is so_far h = grind (arith, common_steps, keep_snoc, take_snoc)

-- every trail was passed
pub record IsWhole (t : Trails) (c : Cursors) : Type 0 where
  pub tasks : length t.tasks ≤ c.tasks
  pub slots : (k : ℕ) → k < length t.slots → length (slot_trail t k) ≤ cursor_at c.slots k
  pub pool : length t.pool ≤ c.pool

module _ (t : Trails) (sessions : List (List Receipt)) where
  -- one item more
  pub passed : (c d : Cursors) (items : List Item) (i : Item) → Walked t sessions c items → Passes t sessions c i d → Walked t sessions d (items ++ i ∷ [])
  passed c d items i w p = grind (arith, common_steps, goes, All-append, All-cons, All-nil, goes_on)

  -- at the end of all, the items join the trails and the receipts
  pub joined : (c : Cursors) (items : List Item) → Walked t sessions c items → IsWhole t c → HaveEnded sessions c → Joins t sessions items
  joined c items w whole e = grind (arith, common_steps)

pub started : (t : Trails) (receipts : List (List Receipt)) (slots sessions : ℕ) → WalkedBy t receipts (at_start slots sessions) []
started t receipts slots sessions = grind (arith, common_steps, zeros_at, All-nil)

pub walked_on : (t : Trails) (receipts : List (List Receipt)) (c d : Cursors) (order : List ℕ) (s : ℕ) (part : Part) → WalkedBy t receipts c order → Took t receipts s part c d
    → WalkedBy t receipts d (order ++ s ∷ [])
walked_on t receipts c d order s part w k = (
  w.0 ++ k.0 ∷ [],
  passed t receipts c d w.0 k.0 w.1 k.1,
  map_snoc (λ (i : Item). i.by) w.0 k.0 ∙ ap (λ xs. xs ++ k.0.by ∷ []) w.2 ∙ ap (λ n. order ++ n ∷ []) k.2,
)

pub started_by : (t : Trails) (receipts : List (List Receipt)) (slots sessions : ℕ) (w : Cursors) (order : List ℕ) → w ≡ at_start slots sessions → order ≡ [] → WalkedBy t receipts w order
started_by t receipts slots sessions w order is none =
    subst (λ (x : Cursors). WalkedBy t receipts x order) (sym is) (subst (λ xs. WalkedBy t receipts (at_start slots sessions) xs) (sym none) (started t receipts slots sessions))
