-- `house` lodges an empty list in the room of the block. Assumes `Logic`.
use Rattle.std.proofs.Common.{◌≡◌, ℕ, ◌^◌, ◌<◌, List, [], ◌∷◌, ◌++◌, refl, sym, ap, subst, ◌∙◌, arith, Vec}
use mir.Syntax.{Fn}
use mir.Val.{Val}
use base.Logic.{SProp, emp, id⊢}
use base.Fml.{ftrue}
use prog.Wp.{WpFn}
use contract.Monad.{fact, fact_i}
use contract.Running.{tables}
use types.Kit.{‵, raw, ◌⊛◌, some, later, given, prop, at_ret, ◌$◌, ◌∵◌, !, qed, by, move, drop, use0, use1, use2, split, split3, join, pick, learn, rewrite, regoal, fjoin, await}
use types.Part.{whole, sub, agg}
use types.Run.{stop, fld, lit, of_opd, no_more, and_then, first, blocks, exec, returns, enter}
use types.ByLocal.{alloc_all, pass_all, free_all, look_at, get, get_in, sets, lands_as, lands_last, env}
use denote.RattleType.{owns}
use denote.Builtin.{u8, usize}
use denote.RawPtr.{Ptr, RawPtr, block_ptr}
use denote.Shadow.{pure_l}
use denote.Signature.{types_at}
use denote.Steps.{nothing, only, heard}
use denote.Struct.Tuple.{Tuple}
use denote.Triple.Call.{calls_at, calls_at_last}
use denote.Triple.Clauses.{Lasts, lasts}
use denote.Triple.Entry.{alive}
use denote.Triple.Spec.{triple_of}
use denote.Triple.Table.{framed}
use denote.Triple.Walked.{Stays, stay_dropped, walk_of}
use Rattle.std.proofs.alloc.Calls.{Goes-blank}
use Rattle.std.proofs.raw_atomic.Walks.{proved_at, leaves}
use Rattle.std_alloc.proofs.Pairs.{pair_of, pair_val}
use Rattle.std_alloc.proofs.ResultValues.{and_tt}
use Rattle.std_alloc.specs.Vec.Ownership.{lodged}
use Rattle.std_alloc.specs.declared.vec.lodged.Lodged.{Lodged}
use Rattle.std_alloc.proofs.vec.lodge.Met as lodge
use Rattle.linked_list_allocator.specs.Region.{Region, IsBlock}
use Rattle.linked_list_allocator.specs.Ownership.{bytes_at}
use Rattle.linked_list_allocator.specs.contracts.block.Block as block
use Rattle.linked_list_allocator.specs.contracts.block.Block.into_raw_parts as into_raw_parts
use Rattle.linked_list_allocator.proofs.block.Block.into_raw_parts.Met as takes_apart
use Rattle.linked_list_allocator.proofs.Values.{ptr_typed, sized_val, sized_told}
use Rattle.linked_list_allocator.proofs.Walks.{slot_at}
use Rattle.hp_frames.proofs.Leasing.{Bytes, Good, byte_laws, way_back, leases, Lodges, at_lodge, IsLodged, lodge_goes, lodge_gives, list_told, fieldless, fieldless_made}
use Rattle.hp_frames.specs.contracts.lodging.Lease as Lease
use Rattle.hp_frames.specs.contracts.lodging.house.{ended, clauses}
use Rattle.hp_frames.specs.contracts.lodging.house.Key.{name as #self}
use Rattle.hp_frames.proofs.lodging.house.Statement.{statement}
use Rattle.hp_frames.proofs.lodging.house.Code as code

pub house_spec : {M : Type 1} → statement M
house_spec 𝓤 𝓛 𝓜 𝓡 wired =
    let H = 𝓛.H in
    let c = clauses 𝓛 𝓜.mem 𝓡.returns in
    let fn : Fn = code.function in
    let stays : Stays ended.signature.params ended.kept = (stay_dropped (slot_at 0 ended.signature.params) ended.kept.0, tt) in
    let 𝓣 = tables 𝓤 H 𝓜 𝓡 𝓡.env in
    proved_at 𝓛 ended stays c 𝓜 𝓡 (Goes-blank 𝓛 0 (slot_at 0 ended.signature.params) ended.kept.0 (λ κs x f. tt), tt) #self fn (code.unfolded 𝓤 H 𝓜 𝓡 wired) (λ z are.
    let Post : Val → SProp 𝓤 = (walk_of 𝓛 ended stays c).post z in
    let tokens : SProp 𝓤 = alive 𝓛 ended.signature z.0.0 z.0.1 in
    let x = z.0.3.0 in
    let r : Region = x.region in
    let p : Ptr = block_ptr r.block x.at in
    let told = sized_told x.ptr x.size z.0.4.0 are.0.0 in
    let ok : Good block.the_row (sized_val x.ptr x.size) = (and_tt _ ((ptr_typed x.ptr).0), ((ptr_typed x.ptr).1, (record { fits = told.1 }, tt))) in
    let Apart = triple_of 𝓛 into_raw_parts.signature (into_raw_parts.spec 𝓛 𝓜.mem 𝓡.returns) in
    let y : Apart.Ghost = ((z.0.0, z.0.1, z.0.2, (x, tt), (sized_val x.ptr x.size ∷ [], tt)), tt) in
    qed 𝓛 ((raw tokens ⊛ ‵ (owns (types_at ended.signature.params z.0.0) z.0.3 z.0.4)) ∷ ‵ ftrue ∷ []) ∵ split ! $ move ! (1 ∷ []) $
    rewrite ! 0 (λ (us : List Val). ‵ (owns (types_at ended.signature.params z.0.0) z.0.3 (us, tt))) told.0 refl $
    regoal ! (λ (us : List Val). prop (WpFn 𝓤 H 𝓣.C 𝓣.Λ fn us Post)) (λ i. told.0 i ++ []) refl $
    move ! (1 ∷ 0 ∷ []) $ join ! $ join ! $
    enter ! 𝓣.C 𝓣.Λ fn (sized_val x.ptr x.size ∷ []) Post $ alloc_all ! (λ l. pass_all ! refl (ok, tt) $
    use1 𝓛 (raw (Apart.pre y)) (id⊢ 𝓤 _) $
    sets ! (of_opd ! (get ! refl)) refl ok $
    calls_at ! (framed 𝓤 H 𝓜 𝓣) Apart (takes_apart.met 𝓤 𝓛 𝓜 𝓡 (code.calls-linked_list_allocator::Block::into_raw_parts 𝓡.env wired)) y (and_then ! (get ! refl) (no_more !)) (λ v.
    let Said : Ptr × ℕ → Type 0 = λ u. IsBlock r u.0 x.at u.1 × (u.1 ≡ x.size) in
    use1 𝓛 (later (some (λ (u : Ptr × ℕ). (raw tokens ⊛ ‵ ((Tuple (RawPtr ∷ usize ∷ [])).own_val u (v ∷ []))) ⊛
    some (λ (ls : Lasts into_raw_parts.ended z.0.0 y.0.3). ‵ (lasts into_raw_parts.ended z.0.0 y.0.3 ls) ⊛ raw (fact 𝓤 (Said u)) ⊛ ‵ (bytes_at u.0 u.1))))) (id⊢ 𝓤 (Apart.post y v)) $
    await ! tt $ pick ! (λ u. split ! $ move ! (1 ∷ []) $ pick ! (λ _. split3 ! $ drop ! $ heard ! (Said u) (λ said. move ! (1 ∷ []) $ split ! $ move ! (1 ∷ []) $
    pure_l ! ((Tuple (RawPtr ∷ usize ∷ [])).own_val u (v ∷ [])) (λ s.
    let n = u.1 in
    let parts = sized_told u.0 n (v ∷ []) s in
    let placed : IsBlock r p x.at n = (refl, said.0.1, said.0.2, said.0.3, said.0.4) in
    let small : n < 2 ^ 63 = omega (arith, said.0.2, said.0.3) in
    let lease : (Lease.the_row).Denot = record { region = r; at = x.at; ptr = p; size = n; placed = placed } in
    let y' = at_lodge 𝓛 𝓜.mem 𝓡.returns r.block x.at n in
    -- [the tokens; the block's bytes; the locals]
    lands_as ! (ap only parts.0 ∙ ap (λ (q : Ptr). sized_val q n) said.0.0) refl (tt, (tt, (record { fits = parts.1 }, tt))) $
    sets ! (of_opd ! (get_in ! (fld ! refl (stop !)) (sub ! 0 refl (whole !)))) refl (tt, tt) $
    sets ! (of_opd ! (get_in ! (fld ! refl (stop !)) (sub ! 1 refl (whole !)))) refl (tt, record { fits = parts.1 }) $
    first ! $ blocks ! $
    sets ! (of_opd ! (get ! refl)) refl (tt, tt) $ sets ! (of_opd ! (get ! refl)) refl (tt, record { fits = parts.1 }) $
    rewrite ! 1 (λ (q : Ptr). ‵ (bytes_at q n)) said.0.0 refl $ move ! (1 ∷ 0 ∷ []) $
    use1 𝓛 (‵ (lodged u8 p 0 n []) ⊛ ‵ (way_back p n)) (leases 𝓛 r x.at n placed) $ split ! $
    use1 𝓛 (raw ((Lodges 𝓛 𝓜.mem 𝓡.returns).pre y')) (lodge_goes 𝓛 𝓜.mem 𝓡.returns r.block x.at n small) $
    calls_at_last ! (framed 𝓤 H 𝓜 𝓣) (Lodges 𝓛 𝓜.mem 𝓡.returns) (lodge.met 𝓤 𝓛 𝓜 𝓡 (code.calls-std_alloc::vec::lodge 𝓡.env wired) u8 byte_laws) y'
    (and_then ! (get ! refl) (and_then ! (lit ! tt) (and_then ! (get ! refl) (no_more !)))) (λ w.
    use1 𝓛 (later (some (λ (d : Vec ℕ Lodged). given (IsLodged 𝓛 𝓜.mem 𝓡.returns r.block x.at n d) (‵ (Bytes.own_val d (w ∷ [])))))) (lodge_gives 𝓛 𝓜.mem 𝓡.returns r.block x.at n w) $
    await ! tt $ pick ! (λ d. learn ! (λ is. list_told ! d (w ∷ []) (λ t same good.
    let fine : Good Bytes w = subst (Good Bytes) (sym (ap only same)) good in
    rewrite ! 0 (λ (v' : Val). ‵ (Bytes.own_val d (v' ∷ []))) (sym (ap only same)) refl $ lands_last ! refl fine $
    exec ! 𝓣.C 𝓣.Λ (env fn.locals l) code.Mir.t-6 (at_ret (env fn.locals l) Post) $
    sets ! (of_opd ! (get ! refl)) refl fine $
    sets ! (agg ! (no_more !)) refl (tt, tt) $
    sets ! (agg ! (and_then ! (get ! refl) (and_then ! (get ! refl) (no_more !)))) refl (and_tt _ fine.0, (fine.1, (tt, tt))) $
    returns ! (look_at ! 0 refl) $ free_all ! refl $
    -- [the list; the way back; the tokens]
    move ! (1 ∷ 0 ∷ []) $ fieldless_made ! $ fjoin ! $ move ! (1 ∷ 0 ∷ []) $
    use2 𝓛 (‵ ((Tuple (Bytes ∷ Lease.the_row ∷ [])).own_val (d, lease) (pair_val w fieldless ∷ []))) (pair_of 𝓛 Bytes Lease.the_row d lease w fieldless) $
    use0 𝓛 (raw (fact 𝓤 (r ≡ r))) (fact_i 𝓤 (r ≡ r) (emp 𝓤) refl) $
    use0 𝓛 (raw (fact 𝓤 ((d.ptr ≡ p) × (n ≡ x.size)))) (fact_i 𝓤 ((d.ptr ≡ p) × (n ≡ x.size)) (emp 𝓤) (is.3, said.1)) $ join ! $
    use0 𝓛 (raw (fact 𝓤 (d.cap ≡ x.size))) (fact_i 𝓤 (d.cap ≡ x.size) (emp 𝓤) (is.2 ∙ said.1)) $ join ! $
    use0 𝓛 (raw (fact 𝓤 (d.items ≡ []))) (fact_i 𝓤 (d.items ≡ []) (emp 𝓤) is.0) $ join ! $
    nothing ! $ nothing ! $ fjoin ! $ move ! (3 ∷ 0 ∷ 2 ∷ 1 ∷ []) $
    by ! (leaves 𝓛 ended stays c z (pair_val w fieldless) (d, lease) (tt, tt) (tt, tt)))))))))))))
