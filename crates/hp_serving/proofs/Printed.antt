-- What is printed, and what is said of a fault.
use Rattle.std.proofs.Common.{◌≡◌, ◌++◌, ℕ, List, refl, Option, Result, Ok, Err, OnOk, IfErr, IsOk, true, false}
use Rattle.std.specs.Io.KnownBytes.{Appends}
use Rattle.hp_wire.specs.Sent.{IsWriteCut}
use Rattle.hp_model.specs.declared.fault.RunFault.{RunFault}
use Rattle.hp_wire.proofs.Known.{appends_then, front_whole, front_then, front_more}
use Rattle.hp_serving.specs.Ended.{Says}

-- a line is whole where no write fails
pub says_of : {X : Type 0} (sure : Type 0) (a b : Option (List ℕ)) (text : List ℕ) (result : Result X RunFault) → OnOk result (Appends a b text) → IfErr result (IsWriteCut a b text)
    → (sure → IsOk result) → Says sure a b text
says_of sure a b text (Ok x) h k s = (front_whole a b text h, λ i. h)
says_of sure a b text (Err e) h k s = (k.1, λ i. (let never : false ≡ true = s i in cc))

-- a text that is cut in its first part
pub cut_first : (a b : Option (List ℕ)) (first rest : List ℕ) (fault : RunFault) → IsWriteCut a b first fault → IsWriteCut a b (first ++ rest) fault
cut_first a b first rest fault k = (k.0, front_more a b first rest (first ++ rest) refl k.1)

-- and in its second
pub cut_second : {X : Type 0} (a b c : Option (List ℕ)) (first rest : List ℕ) (result : Result X RunFault) → Appends a b first → IfErr result (IsWriteCut b c rest)
    → IfErr result (IsWriteCut a c (first ++ rest))
cut_second a b c first rest (Ok x) h k = tt
cut_second a b c first rest (Err e) h k = (k.0, front_then a b c first rest h k.1)

pub sent_second : {X : Type 0} (a b c : Option (List ℕ)) (first rest : List ℕ) (result : Result X RunFault) → Appends a b first → OnOk result (Appends b c rest)
    → OnOk result (Appends a c (first ++ rest))
sent_second a b c first rest (Ok x) h k = appends_then a b c first rest h k
sent_second a b c first rest (Err e) h k = k
