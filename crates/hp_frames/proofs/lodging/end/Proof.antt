-- `end` takes the room from `dislodge`, and makes the block of it. Assumes `Logic`.
use Rattle.std.proofs.Common.{◌≡◌, ℕ, ◌^◌, ◌<◌, ◌≤◌, List, [], ◌∷◌, ◌++◌, refl, sym, ap, subst, ◌∙◌, arith, w64}
use mir.Syntax.{Fn}
use mir.Val.{Val, vint, vptr}
use base.Logic.{SProp, emp, id⊢}
use prog.Wp.{WpFn}
use contract.Monad.{fact, fact_i}
use contract.Running.{tables}
use types.Kit.{‵, raw, ◌⊛◌, some, later, given, prop, at_ret, ◌$◌, ◌∵◌, !, qed, by, move, drop, use0}
use types.Kit.{use1, use2, split, join, pick, learn, rewrite, regoal, fsplit, fjoin, feq_l, feq_i, flt_l, flt_i, await}
use types.Run.{of_opd, no_more, and_then, first, blocks, exec, returns, enter}
use types.ByLocal.{alloc_all, pass_all, free_all, look_at, get, sets, lands_as, lands_last, env}
use denote.Laws.{Is, shows}
use denote.RattleType.{owns}
use denote.Builtin.{u8}
use denote.RawPtr.{Ptr, block_ptr, ptr_val}
use denote.Signature.{types_at}
use denote.Steps.{nothing, only, heard, peeks}
use denote.Triple.Call.{calls_at, calls_at_last}
use denote.Triple.Clauses.{Lasts, lasts}
use denote.Triple.Entry.{alive}
use denote.Triple.Spec.{triple_of}
use denote.Triple.Table.{framed}
use denote.Triple.Walked.{Stays, stay_dropped, walk_of}
use Rattle.std.proofs.alloc.Calls.{Goes-blank}
use Rattle.std.proofs.raw_atomic.Walks.{proved_at, leaves}
use Rattle.std_alloc.proofs.ResultValues.{and_tt}
use Rattle.std_alloc.specs.Vec.Ownership.{lodged}
use Rattle.std_alloc.proofs.vec.lodged.Vec+T+Lodged.dislodge.Met as dislodge
use Rattle.linked_list_allocator.specs.Region.{Region, IsBlock}
use Rattle.linked_list_allocator.specs.Ownership.{bytes_at}
use Rattle.linked_list_allocator.specs.contracts.block.Block as block
use Rattle.linked_list_allocator.specs.contracts.block.Block.from_raw_parts as from_raw_parts
use Rattle.linked_list_allocator.proofs.block.Block.from_raw_parts.Met as makes
use Rattle.linked_list_allocator.proofs.Values.{ptr_typed, sized_val, sized_told}
use Rattle.linked_list_allocator.proofs.Walks.{slot_at}
use Rattle.hp_frames.proofs.Leasing.{Good, byte_laws, way_back, ends, Dislodges, at_dislodge, dislodge_goes, Freed, dislodge_gives, list_told, fieldless, fieldless_told}
use Rattle.hp_frames.specs.contracts.lodging.end.{ended, clauses}
use Rattle.hp_frames.specs.contracts.lodging.end.Key.{name as #self}
use Rattle.hp_frames.proofs.lodging.end.Statement.{statement}
use Rattle.hp_frames.proofs.lodging.end.Code as code

pub end_spec : {M : Type 1} → statement M
end_spec 𝓤 𝓛 𝓜 𝓡 wired =
    let H = 𝓛.H in
    let c = clauses 𝓛 𝓜.mem 𝓡.returns in
    let fn : Fn = code.function in
    let S = ended.signature in
    let stays : Stays S.params ended.kept = (
      stay_dropped (slot_at 0 S.params) ended.kept.0,
      (
        stay_dropped (slot_at 1 S.params) ended.kept.1.0,
        (
          stay_dropped (slot_at 2 S.params) ended.kept.1.1.0,
          (stay_dropped (slot_at 3 S.params) ended.kept.1.1.1.0, tt),
        ),
      ),
    ) in
    let 𝓣 = tables 𝓤 H 𝓜 𝓡 𝓡.env in
    proved_at 𝓛 ended stays c 𝓜 𝓡 (
      Goes-blank 𝓛 0 (slot_at 0 S.params) ended.kept.0 (λ κs x f. tt),
      (
        Goes-blank 𝓛 0 (slot_at 1 S.params) ended.kept.1.0 (λ κs x f. tt),
        (Goes-blank 𝓛 0 (slot_at 2 S.params) ended.kept.1.1.0 (λ κs x f. tt), (Goes-blank 𝓛 0 (slot_at 3 S.params) ended.kept.1.1.1.0 (λ κs x f. tt), tt)),
      ),
    ) #self fn (code.unfolded 𝓤 H 𝓜 𝓡 wired) (λ z are.
    let Post : Val → SProp 𝓤 = (walk_of 𝓛 ended stays c).post z in
    let tokens : SProp 𝓤 = alive 𝓛 S z.0.0 z.0.1 in
    let vss = z.0.4 in
    let lease = z.0.3.0 in
    let ptr = z.0.3.1.0 in
    let size = z.0.3.1.1.0 in
    let d = z.0.3.1.1.1.0 in
    let r : Region = lease.region in
    let p : Ptr = block_ptr r.block lease.at in
    let n = lease.size in
    let placed : IsBlock r p lease.at n = (refl, lease.placed.1, lease.placed.2, lease.placed.3, lease.placed.4) in
    let At : Type 0 = (lease.ptr ≡ ptr) × (n ≡ size) in
    let Whole : Type 0 = (d.ptr ≡ ptr) × (d.cap ≡ size) in
    qed 𝓛 ((raw tokens ⊛ ‵ (owns (types_at S.params z.0.0) z.0.3 vss)) ∷ (raw (fact 𝓤 At) ⊛ raw (fact 𝓤 Whole)) ∷ []) ∵
    move ! (1 ∷ []) $ split ! $ heard ! At (λ at. heard ! Whole (λ whole. split ! $ move ! (1 ∷ []) $
    fsplit ! $ fsplit ! $ fieldless_told ! vss.0 (λ is₀. move ! (1 ∷ []) $ fsplit ! $ feq_l !
    (λ is₁. fsplit ! $ fsplit ! $ feq_l ! (λ is₂. flt_l ! (λ fits. fsplit ! $ list_told ! d vss.1.1.1.0 (λ u is₃ good. move ! (1 ∷ []) $ drop ! $
    -- [the list; the way back; the tokens]
    let to_p : ptr ≡ p = sym at.0 ∙ lease.placed.0 in
    let to_n : size ≡ n = sym at.1 in
    let small : n < 2 ^ 64 = omega (arith, fits, to_n) in
    let few : d.len ≤ n = omega (arith, d.ok.1, whole.1, to_n) in
    let y = at_dislodge 𝓛 𝓜.mem 𝓡.returns d u in
    regoal ! (λ (us : List Val). prop (WpFn 𝓤 H 𝓣.C 𝓣.Λ fn us Post))
    (λ i. is₀ i ++ ((is₁ ∙ ap (λ (q : Ptr). ptr_val q ∷ []) to_p) i ++ ((is₂ ∙ ap (λ (k : ℕ). vint w64 k ∷ []) to_n) i ++ (is₃ i ++ [])))) refl $
    enter ! 𝓣.C 𝓣.Λ fn (fieldless ∷ vptr r.block lease.at ∷ vint w64 n ∷ u ∷ []) Post $
    alloc_all ! (λ l. pass_all ! refl ((tt, tt), ((tt, tt), ((tt, record { fits = small }), (good, tt)))) $
    sets ! (of_opd ! (get ! refl)) refl good $
    use1 𝓛 (raw ((Dislodges 𝓛 𝓜.mem 𝓡.returns).pre y)) (dislodge_goes 𝓛 𝓜.mem 𝓡.returns d u) $
    calls_at ! (framed 𝓤 H 𝓜 𝓣) (Dislodges 𝓛 𝓜.mem 𝓡.returns) (dislodge.met 𝓤 𝓛 𝓜 𝓡
    (code.calls-std_alloc::vec::lodged::Vec+T+Lodged::dislodge 𝓡.env wired) u8 byte_laws) y (and_then ! (get ! refl) (no_more !)) (λ v.
    use1 𝓛 (later (given (Freed 𝓛 𝓜.mem 𝓡.returns d u v) (‵ (lodged u8 d.ptr d.len d.cap d.items)))) (dislodge_gives 𝓛 𝓜.mem 𝓡.returns d u v) $ await ! tt $ learn ! (λ freed.
    lands_as ! freed.0 refl (tt, record { fits = freed.1 }) $
    rewrite ! 0 (λ (q : Ptr × ℕ). ‵ (lodged u8 q.0 d.len q.1 d.items)) (λ i. ((whole.0 ∙ to_p) i, (whole.1 ∙ to_n) i)) refl $ rewrite ! 1 (λ (q : Ptr). ‵ (way_back q n)) lease.placed.0 refl $
    use2 𝓛 (‵ (bytes_at p n)) (ends 𝓛 r lease.at n placed d.len d.items few) $
    -- [the block's bytes; the tokens; the locals]
    let Makes = triple_of 𝓛 from_raw_parts.signature (from_raw_parts.spec 𝓛 𝓜.mem 𝓡.returns) in
    let y' : Makes.Ghost = ((z.0.0, z.0.1, z.0.2, (p, (n, tt)), (vptr r.block lease.at ∷ [], (vint w64 n ∷ [], tt))), (r, lease.at)) in
    use0 𝓛 (raw (fact 𝓤 (IsBlock r p lease.at n))) (fact_i 𝓤 (IsBlock r p lease.at n) (emp 𝓤) placed) $ join ! $
    nothing ! $ flt_i ! n (2 ^ 64) small $ feq_i ! (List Val) (vint w64 n ∷ []) (vint w64 n ∷ []) refl $ fjoin ! $ fjoin ! $ feq_i ! (List Val)
    (vptr r.block lease.at ∷ []) (vptr r.block lease.at ∷ []) refl $ fjoin ! $
    move ! (2 ∷ 0 ∷ 1 ∷ []) $ join ! $ join ! $ use1 𝓛 (raw (Makes.pre y')) (id⊢ 𝓤 _) $
    first ! $ blocks ! $
    calls_at_last ! (framed 𝓤 H 𝓜 𝓣) Makes (makes.met 𝓤 𝓛 𝓜 𝓡 (code.calls-linked_list_allocator::Block::from_raw_parts 𝓡.env wired)) y'
    (and_then ! (get ! refl) (and_then ! (get ! refl) (no_more !))) (λ w.
    let Made : (block.the_row).Denot → Type 0 = λ b. (b.region ≡ r) × (b.at ≡ lease.at) × (b.size ≡ n) in
    use1 𝓛 (later (some (λ (b : (block.the_row).Denot). (raw tokens ⊛ ‵ ((block.the_row).own_val b (w ∷ []))) ⊛
    some (λ (ls : Lasts from_raw_parts.ended z.0.0 y'.0.3). ‵ (lasts from_raw_parts.ended z.0.0 y'.0.3 ls) ⊛ raw (fact 𝓤 (Made b)))))) (id⊢ 𝓤 (Makes.post y' w)) $
    await ! tt $ pick ! (λ b. split ! $ move ! (1 ∷ []) $ pick ! (λ _. split ! $ drop ! $ heard ! (Made b) (λ made. split ! $ move ! (1 ∷ []) $
    peeks ! block.the_row (Is block.the_row) (shows 𝓛 block.the_row) b (w ∷ []) (λ is.
    let told = sized_told b.ptr b.size (w ∷ []) is.0 in
    let ok : Good block.the_row (sized_val b.ptr b.size) = (and_tt _ ((ptr_typed b.ptr).0), ((ptr_typed b.ptr).1, (record { fits = told.1 }, tt))) in
    let fine : Good block.the_row w = subst (Good block.the_row) (sym (ap only told.0)) ok in
    lands_last ! refl fine $
    exec ! 𝓣.C 𝓣.Λ (env fn.locals l) code.Mir.t-4 (at_ret (env fn.locals l) Post) $
    sets ! (of_opd ! (get ! refl)) refl fine $
    returns ! (look_at ! 0 refl) $ free_all ! refl $
    use0 𝓛 (raw (fact 𝓤 (b.region ≡ r))) (fact_i 𝓤 (b.region ≡ r) (emp 𝓤) made.0) $
    nothing ! $ nothing ! $ fjoin ! $ nothing ! $ fjoin ! $ nothing ! $ fjoin ! $ nothing ! $ fjoin ! $ move ! (3 ∷ 0 ∷ 2 ∷ 1 ∷ []) $
    by ! (leaves 𝓛 ended stays c z w b (tt, (tt, (tt, (tt, tt)))) (tt, (tt, (tt, (tt, tt)))))))))))))))))))))
