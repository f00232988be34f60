-- A block is room for a list of bytes, and is had again of that room. `lodge` and `dislodge` at a call. Assumes `Logic`.
use Rattle.std.proofs.Common.{◌≡◌, ℕ, ◌+◌, ◌-◌, ◌*◌, ◌^◌, ◌<◌, ◌≤◌, List, [], ◌∷◌, length, true, refl, sym, ap, ◌∙◌, arith, Vec}
use Rattle.std.proofs.lemmas.Bool.{ne_eqb, not_from_false}
use seplogic.Ra.Ura.{Ura}
use mir.Syntax.{Ty, w8, w64, ty_int, ty_array}
use mir.Syntax.{given as dict_at}
use mir.Val.{Val, vint, vptr, vstruct, vnil, has_ty, WT}
use base.Fraction.{full_share}
use base.Logic.{SProp, ent, sep, ex, guard, emp, id⊢, apply∗}
use base.Fml.{Fml, ftrue, feq, fsep, fwand, flft, froom}
use prog.Memory.{Memory}
use prog.Routine.{Routine}
use contract.Monad.{Fun, fact, fact_i}
use contract.BorrowLft.{◌⊑◌, ⊑_refl}
use types.Logic.{Logic, sem}
use types.Kit.{Goal, Seq, Step, step, Item, fpick, fpack, ‵, raw, ◌⊛◌, some, later, ◌$◌, ◌∵◌, !, qed, by, move, keep, use0, use1}
use types.Kit.{use2, drop, split, split3, join, pick, fsplit, fsplit3, fjoin, fjoin3, feq_l, feq_i, flt_l, flt_i, rewrite, check, show, await, updating, now, done}
use denote.Exit.{no, left}
use denote.RattleType.{RattleType, Valss}
use lib.Dec.{T}
use denote.Param.{layout}
use denote.Struct.Struct.{Struct, within}
use Rattle.std.proofs.alloc.Calls.{handle_tells}
use denote.Steps.{only}
use denote.Builtin.{u8, usize}
use denote.Array.{Array}
use denote.Param.{param}
use denote.Param.Laws.{Laws, of_field}
use denote.Param.Shared.{copy_shared}
use denote.RawPtr.{Ptr, block_ptr, lies_at, room_at}
use denote.RawPtr.Bytes.{bytes, bytes_apart, bytes_whole, bytes-room}
use denote.RawPtr.Room.{past, past_bytes, room_glue}
use denote.Steps.{nothing, heard}
use denote.Struct.Field.{u8-field}
use denote.Struct.Laws.{u8-laws, u8-copy}
use denote.Triple.Spec.{triple_of}
use denote.Triple.Statement.{Contract}
use Rattle.std.specs.Allocator.{block_with_items}
use Rattle.std_alloc.specs.Vec.Ownership.{lodged, owns_if, has_block}
use Rattle.std_alloc.specs.declared.vec.lodged.Lodged.{Lodged}
use Rattle.std_alloc.specs.contracts.vec.Vec as V
use Rattle.std_alloc.specs.contracts.vec.lodged.Lodged as L
use Rattle.std_alloc.specs.contracts.vec.lodged.LodgedAllocator.TheImpl.{ghosts}
use Rattle.std_alloc.specs.contracts.vec.lodge as LG
use Rattle.std_alloc.specs.contracts.vec.lodged.Vec+T+Lodged.dislodge as DL
use Rattle.std_alloc.proofs.vec.Vec.TheLaws as vec_laws
use Rattle.std_alloc.proofs.vec.lodged.Lodged.TheLaws as lodged-laws
use Rattle.linked_list_allocator.specs.Region.{Region, IsBlock}
use Rattle.linked_list_allocator.specs.Ownership.{bytes_at}
use Rattle.linked_list_allocator.proofs.Nodes.{retypes}

abbrev pub byte_laws : Laws u8
byte_laws = of_field u8-field u8-laws refl (copy_shared u8-field u8-copy)

-- a list of bytes that lies in another value's block
abbrev pub Bytes : RattleType
Bytes = V.the_row u8 L.the_row ghosts

abbrev pub bytes_laws : Laws Bytes
bytes_laws = vec_laws.the_row_laws u8 L.the_row ghosts byte_laws lodged-laws.the_row_laws

-- what a lease owns: of room for n bytes at p, the block again
abbrev pub way_back : Ptr → ℕ → Fml
way_back p n = fwand (room_at (Array u8 n) p) (bytes_at p n)

abbrev byte : Ty
byte = ty_int w8

held : (n : ℕ) → 0 < n → has_block n ≡ true
held n more = not_from_false _ (ne_eqb n 0 (λ none. omega arith))

module _ {M : Type 1} {𝓤 : Ura M} (𝓛 : Logic 𝓤) (r : Region) (at n : ℕ) (placed : IsBlock r (block_ptr r.block at) at n) where
  open 𝓛 use {H}

  abbrev p : Ptr
  p = block_ptr r.block at

  abbrev room : ℕ → ℕ → Fml
  room k o = froom (ty_array byte k) r.block o

  -- no byte lies there yet
  pub leases : ent 𝓤 (sem 𝓛 (bytes_at p n)) (sep 𝓤 (sem 𝓛 (lodged u8 p 0 n [])) (sem 𝓛 (way_back p n)))
  leases =
      let all : n ≡ n - 0 = omega arith in let start : at ≡ at + 0 * 1 = omega arith in
      qed 𝓛 (‵ (bytes_at p n) ∷ []) ∵
      use1 𝓛 (‵ (room n at) ⊛ ‵ (way_back p n)) (retypes 𝓛 r.block (ty_array byte n) at n placed.4.1 (omega arith) tt) $ split ! $
      rewrite ! 0 (λ (k : ℕ). ‵ (room k at)) all refl $ rewrite ! 0 (λ (o : ℕ). ‵ (room (n - 0) o)) start refl $ nothing ! $
      nothing ! $ feq_i ! ℕ 0 0 refl $ fjoin ! $ use1 𝓛 (‵ (lies_at (Array u8 0) full_share p [])) (bytes_whole 𝓛 full_share 0 [] r.block at) $
      move ! (0 ∷ 2 ∷ 1 ∷ []) $ fjoin3 ! $ rewrite ! 0 (λ y. ‵ (owns_if y (block_with_items (λ _ _. ftrue) u8 p 0 n []))) (sym (held n (omega (arith, placed.4.0)))) refl $
      flt_i ! (n * 1) (2 ^ 63) (omega (arith, placed.2, placed.3)) $ fjoin ! $ done !

  -- whatever bytes lie there
  pub ends : (m : ℕ) (xs : List ℕ) → m ≤ n → ent 𝓤 (sep 𝓤 (sem 𝓛 (lodged u8 p m n xs)) (sem 𝓛 (way_back p n))) (sem 𝓛 (bytes_at p n))
  ends m xs few =
      let sum : m + (n - m) ≡ n = omega arith in
      let behind : at + m * 1 ≡ past byte m at = ap (λ (k : ℕ). at + k) (omega arith) ∙ sym (past_bytes m at) in
      qed 𝓛 (‵ (lodged u8 p m n xs) ∷ ‵ (way_back p n) ∷ []) ∵ fsplit ! $ drop ! $
      rewrite ! 0 (λ y. ‵ (owns_if y (block_with_items (λ _ _. ftrue) u8 p m n xs))) (held n (omega (arith, placed.4.0))) refl $ fsplit3 ! $
      use1 𝓛 (‵ (fsep (feq ℕ (length xs) m) (bytes full_share xs r.block at))) (bytes_apart 𝓛 full_share m xs r.block at) $ fsplit ! $ feq_l ! (λ long.
      use1 𝓛 (‵ (room (length xs) at)) (bytes-room 𝓛 xs r.block at) $ rewrite ! 0 (λ (k : ℕ). ‵ (room k at)) long refl $
      rewrite ! 1 (λ (o : ℕ). ‵ (room (n - m) o)) behind refl $ use2 𝓛 (‵ (room (m + (n - m)) at)) (room_glue 𝓛 byte m (n - m) r.block at) $
      rewrite ! 0 (λ (k : ℕ). ‵ (room k at)) sum refl $ keep ! (0 ∷ 2 ∷ []) $ by ! (apply∗ 𝓤 (sem 𝓛 (room n at)) (sem 𝓛 (bytes_at p n))))

module _ {M : Type 1} {𝓤 : Ura M} (𝓛 : Logic 𝓤) (at_mem : Memory → SProp 𝓤) (run : Routine → Fun 𝓤) where
  open 𝓛 use {H}

  abbrev pub Lodges : Contract 𝓤
  Lodges = triple_of 𝓛 (LG.signature u8) (LG.spec u8 𝓛 at_mem run)

  abbrev pub Dislodges : Contract 𝓤
  Dislodges = triple_of 𝓛 (DL.signature u8) (DL.spec u8 𝓛 at_mem run)

  -- a list with no byte and room for n
  module _ (b o n : ℕ) where
    abbrev pub at_lodge : Lodges.Ghost
    at_lodge = ((([], tt), (full_share, tt), tt, (block_ptr b o, (0, (n, tt))), (vptr b o ∷ [], (vint w64 0 ∷ [], (vint w64 n ∷ [], tt)))), [])

    abbrev pub IsLodged : Vec ℕ Lodged → Type 0
    IsLodged d = (d.items ≡ []) × (d.len ≡ 0) × (d.cap ≡ n) × (d.ptr ≡ block_ptr b o)

    abbrev Asked : Type 0
    Asked = (0 ≡ length {A = ℕ} []) × (0 ≤ n) × (n < 2 ^ 63)

    pub lodge_goes : n < 2 ^ 63 → ent 𝓤 (sem 𝓛 (lodged u8 (block_ptr b o) 0 n [])) (Lodges.pre at_lodge)
    lodge_goes small =
        qed 𝓛 (‵ (lodged u8 (block_ptr b o) 0 n []) ∷ []) ∵ use0 𝓛 (raw (fact 𝓤 Asked)) (fact_i 𝓤 Asked (emp 𝓤) (refl, omega arith, small)) $ join ! $
        use0 𝓛 (raw (fact 𝓤 ([] ⊑ []))) (fact_i 𝓤 ([] ⊑ []) (emp 𝓤) (⊑_refl [])) $ join ! $
        nothing ! $ flt_i ! n (2 ^ 64) (omega arith) $ feq_i ! (List Val) (vint w64 n ∷ []) (vint w64 n ∷ []) refl $ fjoin ! $ fjoin ! $
        flt_i ! 0 (2 ^ 64) (omega arith) $ feq_i ! (List Val) (vint w64 0 ∷ []) (vint w64 0 ∷ []) refl $ fjoin ! $ fjoin ! $
        feq_i ! (List Val) (vptr b o ∷ []) (vptr b o ∷ []) refl $ fjoin ! $ nothing ! $ use0 𝓛 (‵ (flft [] full_share)) (𝓛.lfts.lft-nil full_share) $ join ! $ join ! $ done !

    pub lodge_gives : (v : Val) → ent 𝓤 (Lodges.post at_lodge v) (H.⇛ (ex 𝓤 (λ (d : Vec ℕ Lodged). guard 𝓤 (IsLodged d) (sem 𝓛 (Bytes.own_val d (v ∷ []))))))
    lodge_gives v =
        qed 𝓛 (raw (Lodges.post at_lodge v) ∷ []) ∵ updating ! $
        use1 𝓛 (later (some (λ (d : Vec ℕ Lodged). ((‵ (flft [] full_share) ⊛ ‵ ftrue) ⊛ ‵ (Bytes.own_val d (v ∷ [])))
        ⊛ some (λ (ws : Unit {0} × (Unit {0} × (Unit {0} × Unit {0}))). ‵ (fsep ftrue (fsep ftrue (fsep ftrue ftrue))) ⊛ raw (fact 𝓤 (IsLodged d)))))) (id⊢ 𝓤 _) $ await ! tt $ pick ! (λ d.
        split ! $ move ! (1 ∷ []) $ pick ! (λ ws. split ! $ drop ! $ heard ! (IsLodged d) (λ is. split ! $ drop ! $ now ! $
        show ! (λ (e : Vec ℕ Lodged). guard 𝓤 (IsLodged e) (sem 𝓛 (Bytes.own_val e (v ∷ [])))) d $ check ! is $ done !)))

  -- whatever bytes lie in the list
  module _ (d : Vec ℕ Lodged) (u : Val) where
    abbrev pub at_dislodge : Dislodges.Ghost
    at_dislodge = ((([], tt), (full_share, tt), tt, (d, tt), (u ∷ [], tt)), tt)

    pub dislodge_goes : ent 𝓤 (sem 𝓛 (Bytes.own_val d (u ∷ []))) (Dislodges.pre at_dislodge)
    dislodge_goes =
        qed 𝓛 (‵ (Bytes.own_val d (u ∷ [])) ∷ []) ∵ nothing ! $ use0 𝓛 (raw (fact 𝓤 ([] ⊑ []))) (fact_i 𝓤 ([] ⊑ []) (emp 𝓤) (⊑_refl [])) $ join ! $
        nothing ! $ move ! (2 ∷ 0 ∷ []) $ fjoin ! $ nothing ! $ use0 𝓛 (‵ (flft [] full_share)) (𝓛.lfts.lft-nil full_share) $ join ! $ join ! $ done !

    abbrev pub Freed : Val → Type 0
    Freed v = (v ≡ vint w64 d.len) × (d.len < 2 ^ 64)

    pub dislodge_gives : (v : Val) → ent 𝓤 (Dislodges.post at_dislodge v) (H.⇛ (guard 𝓤 (Freed v) (sem 𝓛 (lodged u8 d.ptr d.len d.cap d.items))))
    dislodge_gives v =
        qed 𝓛 (raw (Dislodges.post at_dislodge v) ∷ []) ∵ updating ! $
        use1 𝓛 (later (some (λ (n : ℕ). ((‵ (flft [] full_share) ⊛ ‵ ftrue) ⊛ ‵ (usize.own_val n (v ∷ [])))
        ⊛ some (λ (ws : Unit {0} × Unit {0}). ‵ (fsep (left ((V.the_row (param 0 u8) L.the_row ghosts).exit no) d ws.0) ftrue) ⊛ raw
        (fact 𝓤 (n ≡ d.len)) ⊛ ‵ (lodged u8 d.ptr d.len d.cap d.items))))) (id⊢ 𝓤 _) $ await ! tt $ pick ! (λ n.
        split ! $ move ! (1 ∷ []) $ pick ! (λ ws. split3 ! $ drop ! $ heard ! (n ≡ d.len) (λ is. move ! (1 ∷ []) $ split ! $ drop ! $ fsplit ! $ feq_l ! (λ e. flt_l ! (λ f. now ! $
        check ! (ap only e ∙ ap (vint w64) is, omega arith) $ done !)))))

abbrev pub Good : RattleType → Val → Type 0
Good R v = T (has_ty (layout R) v) × WT v

-- a struct without fields of data, by its fields alone: what it owns does not read its name
abbrev pub Fieldless : RattleType
Fieldless = Struct (record { name = []; args = []; types = []; fields = [] })

abbrev pub fieldless : Val
fieldless = vstruct vnil

module _ {M : Type 1} {𝓤 : Ura M} {𝓛 : Logic 𝓤} {K : Type 0} {Γ : List (Item 𝓤)} {G : Goal 𝓤 𝓛.H} where
  -- a list that is owned is one machine value, of its type
  pub list_told : K → (d : Vec ℕ Lodged) (vs : List Val) → ((v : Val) → vs ≡ v ∷ [] → Good Bytes v → Seq K 𝓛 (‵ (Bytes.own_val d (v ∷ [])) ∷ Γ) G) → Seq K 𝓛 (‵ (Bytes.own_val d vs) ∷ Γ) G
  list_told t = handle_tells (record { row = Bytes; laws = bytes_laws; g = record { dealloc_token = λ a τ q. ftrue }; d = dict_at 0; drops = dict_at 0 }) t

  pub fieldless_made : K → Step K 𝓛 (‵ (Fieldless.own_val tt (fieldless ∷ [])) ∷ Γ) G Γ G
  fieldless_made t = step (λ s. nothing t $ feq_i t (List Val) (fieldless ∷ []) (fieldless ∷ []) refl $ fjoin t $
      fpack t (Valss []) (within (record { name = []; args = []; types = []; fields = [] }) tt (fieldless ∷ [])) tt $ s)

  pub fieldless_told : K → (vs : List Val) → (vs ≡ fieldless ∷ [] → Seq K 𝓛 Γ G) → Seq K 𝓛 (‵ (Fieldless.own_val tt vs) ∷ Γ) G
  fieldless_told t vs k = fpick t (λ vss. fsplit t $ feq_l t (λ e. drop t $ k e))
