-- Tests whether two values are the same, and the one that goes by the variants of an enum, as a derived `==` does.
use Rattle.std.proofs.Common.{◌≡◌, ℕ, Bool, true, false, ◌&&◌, List, [], ◌∷◌, inl, inr, refl, ap, nat_eq}
use Rattle.std.specs.Cmp.Lexicographic.{pointwise}
use Rattle.std.proofs.lemmas.Bool.{and_parts, eq-eqb, eqb-true, false≢true}
use denote.Struct.Field.{Field}
use denote.Struct.Values.{Values}
use denote.Enum.Bare.{Bare, sameb, same_true, true_same}
use denote.Enum.Compared.{Each, by}
use denote.Enum.Declared.{Choice, Record, declared, values_one}
use Rattle.hp_trail.proofs.ListsSame.{own_list, same_list}

pub record Test (A : Type 0) : Type 0 where
  pub eq : A → A → Bool
  pub same : (x y : A) → eq x y ≡ true → x ≡ y
  pub own : (x : A) → eq x x ≡ true

abbrev pub number : Test ℕ
number = record { eq = nat_eq; same = λ x y e. eqb-true x y e; own = λ x. eq-eqb x x refl }

abbrev pub numbers : Test (List ℕ)
numbers = record { eq = pointwise nat_eq; same = same_list nat_eq (λ x y e. eqb-true x y e); own = own_list nat_eq (λ x. eq-eqb x x refl) }

-- an enum with no fields
abbrev pub variant : (N : Record) → Bare N.parts → Test N.D
variant N bare = record { eq = sameb (declared N); same = same_true (declared N) bare; own = λ x. true_same (declared N) x x refl }

-- ---- the fields of a variant

abbrev pub no_field : Test (Unit {0})
no_field = record { eq = λ x y. true; same = λ x y e. refl; own = λ x. refl }

abbrev pub last_field : {A : Type 0} → Test A → Test (A × Unit {0})
last_field t = record { eq = λ x y. t.eq x.0 y.0; same = λ x y e. ap (λ a. (a, tt)) (t.same x.0 y.0 e); own = λ x. t.own x.0 }

abbrev pub field_then : {A B : Type 0} → Test A → Test B → Test (A × B)
field_then t u = record {
  eq = λ x y. t.eq x.0 y.0 && u.eq x.1 y.1;
  same = λ x y e. let both = and_parts (t.eq x.0 y.0) (u.eq x.1 y.1) e in (λ i. (t.same x.0 y.0 both.0 i, u.same x.1 y.1 both.1 i));
  own = λ x i. t.own x.0 i && u.own x.1 i;
}

-- ---- the variants

infixr 10 ◌▹◌
abbrev pub ◌▹◌ : {A B : Type 0} → A → B → A × B
a ▹ b = (a, b)

abbrev pub Tests : List (List Field) → Type 0
Tests [] = Unit {0}
Tests (Fs ∷ Fss) = Test (Values Fs) × Tests Fss

abbrev pub each_of : (Fss : List (List Field)) → Tests Fss → Each Bool Fss
each_of [] tests = tt
each_of (Fs ∷ Fss) tests = (tests.0.eq, each_of Fss tests.1)

pub same_choice : (Fss : List (List Field)) (tests : Tests Fss) (c d : Choice Fss) → by false false Fss (each_of Fss tests) c d ≡ true → c ≡ d
same_choice [] tests c d e = absurd c
same_choice (Fs ∷ Fss) tests (inl x) (inl y) e = ap inl (tests.0.same x y e)
same_choice (Fs ∷ Fss) tests (inl x) (inr y) e = absurd (false≢true e)
same_choice (Fs ∷ Fss) tests (inr x) (inl y) e = absurd (false≢true e)
same_choice (Fs ∷ Fss) tests (inr x) (inr y) e = ap inr (same_choice Fss tests.1 x y e)

pub own_choice : (Fss : List (List Field)) (tests : Tests Fss) (c : Choice Fss) → by false false Fss (each_of Fss tests) c c ≡ true
own_choice [] tests c = absurd c
own_choice (Fs ∷ Fss) tests (inl x) = tests.0.own x
own_choice (Fs ∷ Fss) tests (inr x) = own_choice Fss tests.1 x

abbrev pub variants : (N : Record) → Tests N.parts → Test N.D
variants N tests = record {
  eq = λ x y. by false false N.parts (each_of N.parts tests) (N.as_values x) (N.as_values y);
  same = λ x y e. values_one N x y (same_choice N.parts tests (N.as_values x) (N.as_values y) e);
  own = λ x. own_choice N.parts tests (N.as_values x);
}
