-- What is said where something went wrong.
use Rattle.std.proofs.Common.{◌≡◌, ◌++◌, ℕ, List, codes, refl, sym, ap, append_assoc, ◌∙◌, Option, Some, Result, Ok, Err, OnOk, arith}
use Rattle.std.proofs.lemmas.Option.{none-some}
use Rattle.std.specs.Io.KnownBytes.{Appends}
use Rattle.clap.specs.Values.{kind_of}
use Rattle.clap.specs.declared.error.Error.{Error}
use Rattle.hp_model.proofs.Words.{AppendsFront, text_of_fault}
use Rattle.hp_model.specs.declared.fault.RunFault.{RunFault}
use Rattle.hp_model.specs.declared.fault.RunFault.TheVariants as fault
use Rattle.hp_wire.proofs.Known.{appends_then, front_whole, front_then, front_more}
use Rattle.hp_serving.specs.Ended.{Says}
use Rattle.hp_program.specs.Program.{Refuses, named, text_for}
use Rattle.hp_words.specs.declared.settings.Wrong.TheVariants.{Parse}

-- a text that is written part after part is cut within one of them
cut_at : (a b c : Option (List ℕ)) (first part rest all : List ℕ) → first ++ part ++ rest ≡ all → Appends a b first → AppendsFront b c part → AppendsFront a c all
cut_at a b c first part rest all e h k = front_more a c (first ++ part) rest all e (front_then a b c first part h k)

pub cut_first : (a b : Option (List ℕ)) (what of : List ℕ) → AppendsFront a b (codes "hugetlbd: ") → AppendsFront a b (named (what ++ of))
cut_first a b what of k = front_more a b (codes "hugetlbd: ") ((what ++ of) ++ codes "\n") (named (what ++ of)) refl k

pub cut_second : (a b c : Option (List ℕ)) (what of : List ℕ) → Appends a b (codes "hugetlbd: ") → AppendsFront b c what → AppendsFront a c (named (what ++ of))
cut_second a b c what of h k =
    cut_at a b c (codes "hugetlbd: ") what (of ++ codes "\n") (named (what ++ of)) (ap (λ (zs : List ℕ). codes "hugetlbd: " ++ zs) (sym (append_assoc what of (codes "\n")))) h k

pub cut_third : (a b c d : Option (List ℕ)) (what of : List ℕ) → Appends a b (codes "hugetlbd: ") → Appends b c what → AppendsFront c d of → AppendsFront a d (named (what ++ of))
cut_third a b c d what of h k m =
    cut_at a c d (codes "hugetlbd: " ++ what) of (codes "\n") (named (what ++ of)) refl (appends_then a b c (codes "hugetlbd: ") what h k) m

pub cut_fourth : (a b c d e : Option (List ℕ)) (what of : List ℕ) → Appends a b (codes "hugetlbd: ") → Appends b c what → Appends c d of → AppendsFront d e (codes "\n")
    → AppendsFront a e (named (what ++ of))
cut_fourth a b c d e what of h k m n =
    front_then a d e (codes "hugetlbd: " ++ what ++ of) (codes "\n") (appends_then a c d (codes "hugetlbd: " ++ what) of (appends_then a b c (codes "hugetlbd: ") what h k) m) n

-- it is whole where the last write is
pub sent_fourth : {X : Type 0} (a b c d e : Option (List ℕ)) (what of : List ℕ) (result : Result X RunFault) → Appends a b (codes "hugetlbd: ") → Appends b c what → Appends c d of
    → OnOk result (Appends d e (codes "\n")) → OnOk result (Appends a e (named (what ++ of)))
sent_fourth a b c d e what of (Ok x) h k m n =
    appends_then a d e (codes "hugetlbd: " ++ what ++ of) (codes "\n") (appends_then a c d (codes "hugetlbd: " ++ what) of (appends_then a b c (codes "hugetlbd: ") what h k) m) n
sent_fourth a b c d e what of (Err f) h k m n = n

-- the text that the words ask for was written
pub shown : {W : Type 0} (contents : W → Option (List ℕ)) (is_sure : W → Type 0) (old new : W) (said : Type 0) (before : Option (List ℕ)) (error : Error) (text : List ℕ)
    → text_for (kind_of error) ≡ Some text → Appends (contents old) (contents new) text → Refuses contents is_sure old new said before before (Parse error) 0
shown contents is_sure old new said before error text asked h = record {
  ends = rw asked (omega arith);
  quiet = λ not. absurd (none-some text (sym not ∙ asked));
  told = λ zero. rw asked h;
  cut = rw asked (front_whole (contents old) (contents new) text h);
  sure = λ is sure. refl;
  says = rw asked (λ zero. refl, λ one. absurd (omega (arith, one)));
}

-- a write of it failed
pub not_shown : {W : Type 0} (contents : W → Option (List ℕ)) (is_sure : W → Type 0) (old new : W) (said : Type 0) (before after : Option (List ℕ)) (error : Error) (text : List ℕ)
    → text_for (kind_of error) ≡ Some text → AppendsFront (contents old) (contents new) text → (is_sure old → ⊥) → Says said before after (named (text_of_fault fault.Write))
    → Refuses contents is_sure old new said before after (Parse error) 1
not_shown contents is_sure old new said before after error text asked h failed says = record {
  ends = rw asked (omega arith);
  quiet = λ not. absurd (none-some text (sym not ∙ asked));
  told = λ one. absurd (omega (arith, one));
  cut = rw asked h;
  sure = λ is sure. absurd (failed sure);
  says = rw asked (λ one. absurd (omega (arith, one)), λ one. says);
}
