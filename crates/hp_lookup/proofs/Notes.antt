-- What is noted of maps, as the table of a slot's tasks changes.
use Rattle.std.proofs.Common.{◌≡◌, ℕ, ◌+◌, ◌==◌, ◌&&◌, ◌||◌, Bool, true, false, not, cond, List, [], length, refl, sym, ap, subst, ◌∙◌, arith, eqb-true, eq-eqb}
use Rattle.std.proofs.lemmas.Bool.Decides.{nat_tests}
use Rattle.hp_model.specs.Lists.{is_among}
use Rattle.hp_lookup.specs.Table.{IsForgottenIn, IsNotedIn, TaskNumbers, numbers_at}
use Rattle.hp_lookup.proofs.Words.{AreSame, IsMore, IsMoreButMap, IsMoreButMapsOf, IsMoreByMap, Noted, has_key, is_noted_as, is_pair, noted_numbers, tally_of}

neither : (a b : Bool) → (a || b) ≡ false → (a ≡ false) × (b ≡ false)
neither true b e = cc
neither false b e = (refl, e)

-- the same either way
both_ways : (a b : Bool) → (a ≡ false → b ≡ false) → (b ≡ false → a ≡ false) → a ≡ b
both_ways true true to from = refl
both_ways true false to from = from refl
both_ways false true to from = sym (to refl)
both_ways false false to from = refl

pair_flipped : (task number t n : ℕ) → is_pair t n (task, number) ≡ false → ((task == t) && (number == n)) ≡ false
pair_flipped task number t n e = grind (arith, nat_tests, e)

module _ (ns : List (List ℕ)) (old new : TaskNumbers) where
  abbrev before : Noted
  before = record { names = ns; table = old }

  abbrev after : Noted
  after = record { names = ns; table = new }

  pub same_noted : ((t : ℕ) → numbers_at t new ≡ numbers_at t old) → AreSame before after
  same_noted same = record { names = λ name. refl; keys = λ t n. ap (is_among n) (same t); tally = λ t. ap length (same t) }

  module _ (task number : ℕ) where
    module _ (is : IsNotedIn task number old new) where
      key_more : (t n : ℕ) → has_key t n after ≡ (((task == t) && (number == n)) || has_key t n before)
      key_more t n = by (task == t) refl
        where
          by : (b : Bool) → (task == t) ≡ b → is_among n (numbers_at t new) ≡ ((b && (number == n)) || is_among n (numbers_at t old))
          by true same = subst (λ q. is_among n (numbers_at q new) ≡ ((number == n) || is_among n (numbers_at q old))) (eqb-true task t same) (is.own.among n)
          by false other = ap (is_among n) (is.others t other)

      pub noted_more : IsMoreByMap task number before after
      noted_more = record {
        more = record { names = λ name e. e; keys = λ t n e. (neither ((task == t) && (number == n)) (has_key t n before) (sym (key_more t n) ∙ e)).1 };
        names = λ name e. e;
        keys = λ t n apart e. key_more t n ∙ ap (λ b. b || has_key t n before) (pair_flipped task number t n apart) ∙ e;
        noted = is.own.among number ∙ ap (λ b. b || has_key task number before) (eq-eqb number number refl);
        tally = λ fresh q. longer fresh q (task == q) refl;
      }
        where
          longer : has_key task number before ≡ false → (q : ℕ) (b : Bool) → (task == q) ≡ b → tally_of after q ≡ tally_of before q + cond b 1 0
          longer fresh q true same = subst (λ i. tally_of after i ≡ tally_of before i + 1) (eqb-true task q same) (is.own.longer fresh)
          longer fresh q false other = (let all = ap length (is.others q other) in omega (arith, all))

    module _ (is : IsForgottenIn task number old new) where
      key_less : (t n : ℕ) → has_key t n after ≡ (not ((task == t) && (number == n)) && has_key t n before)
      key_less t n = by (task == t) refl
        where
          by : (b : Bool) → (task == t) ≡ b → is_among n (numbers_at t new) ≡ (not (b && (number == n)) && is_among n (numbers_at t old))
          by true same = subst (λ q. is_among n (numbers_at q new) ≡ (not (number == n) && is_among n (numbers_at q old))) (eqb-true task t same) (is.own.among n)
          by false other = ap (is_among n) (is.others t other)

      pub noted_less : IsMoreButMap task number before after
      noted_less = record {
        names = λ name e. e;
        keys = λ t n apart e. sym (key_less t n ∙ ap (λ b. not b && has_key t n before) (pair_flipped task number t n apart)) ∙ e;
        gone = is.own.among number ∙ ap (λ b. not b && has_key task number before) (eq-eqb number number refl);
        less = record { names = λ name e. e; keys = λ t n e. key_less t n ∙ ap (λ b. not ((task == t) && (number == n)) && b) e ∙ neither_way (not ((task == t) && (number == n))) };
        tally = λ there q. shorter there q (task == q) refl;
      }
        where
          neither_way : (b : Bool) → (b && false) ≡ false
          neither_way true = refl
          neither_way false = refl

          shorter : has_key task number before ≡ true → (q : ℕ) (b : Bool) → (task == q) ≡ b → tally_of after q + cond b 1 0 ≡ tally_of before q
          shorter there q true same = subst (λ i. tally_of after i + 1 ≡ tally_of before i) (eqb-true task q same) (is.own.shorter there)
          shorter there q false other = (let all = ap length (is.others q other) in omega (arith, all))

-- a map that was noted is forgotten again
pub noted_undone : (task number : ℕ) (old mid new : Noted) → has_key task number old ≡ false → IsMoreByMap task number old mid → IsMoreButMap task number mid new → AreSame old new
noted_undone task number old mid new fresh more less = record {
  names = λ name. both_ways (is_noted_as name new) (is_noted_as name old) (λ e. more.more.names name (less.names name e)) (λ e. less.less.names name (more.names name e));
  keys = λ t n. by t n (is_pair t n (task, number)) refl;
  tally = λ q. (let up = more.tally fresh q in let down = less.tally more.noted q in omega (arith, up, down));
}
  where
    own : (t n : ℕ) → is_pair t n (task, number) ≡ true → (t ≡ task) × (n ≡ number)
    own t n e = grind (arith, nat_tests, e)

    by : (t n : ℕ) (b : Bool) → is_pair t n (task, number) ≡ b → has_key t n new ≡ has_key t n old
    by t n true same = (let is = own t n same in
        ap (λ q. has_key q n new) is.0 ∙ ap (λ q. has_key task q new) is.1 ∙ less.gone ∙ sym (ap (λ q. has_key q n old) is.0 ∙ ap (λ q. has_key task q old) is.1 ∙ fresh))
    by t n false other = both_ways (has_key t n new) (has_key t n old) (λ e. more.more.keys t n (less.keys t n other e)) (λ e. less.less.keys t n (more.keys t n other e))

-- the maps of a task are noted no more
module _ (task : ℕ) (old new : Noted) (gone : IsMoreButMapsOf task old new) where
  pub gone_own : (m : ℕ) → has_key task m new ≡ false
  gone_own m = ap (is_among m) (gone.numbers task ∙ ap (λ b. cond b [] (noted_numbers task old)) (eq-eqb task task refl))

  pub gone_other : (q : ℕ) → (task == q) ≡ false → noted_numbers q new ≡ noted_numbers q old
  gone_other q other = gone.numbers q ∙ ap (λ b. cond b [] (noted_numbers q old)) other

  pub gone_less : IsMore new old
  gone_less = record { names = λ name e. gone.names name ∙ e; keys = λ t m e. by t m (task == t) refl e }
    where
      by : (t m : ℕ) (b : Bool) → (task == t) ≡ b → has_key t m old ≡ false → has_key t m new ≡ false
      by t m true same e = subst (λ q. has_key q m new ≡ false) (eqb-true task t same) (gone_own m)
      by t m false other e = ap (is_among m) (gone_other t other) ∙ e

  pub gone_tally : (q : ℕ) → tally_of new q ≡ cond (task == q) 0 (tally_of old q)
  gone_tally q = ap length (gone.numbers q) ∙ by (task == q)
    where
      by : (b : Bool) → length (cond b [] (noted_numbers q old)) ≡ cond b 0 (tally_of old q)
      by true = refl
      by false = refl
