use Rattle.std.proofs.lemmas.Grind.{common_steps}
use Rattle.std.proofs.lemmas.Bool.Decides.{nat_tests}
use Rattle.std.proofs.Common.{◌≡◌, ◌<◌, Bool, None, Some, length, sym, ap, subst, ◌∙◌, arith}
use Rattle.hp_laws.proofs.Variants.{Limits, Refusal}
use Rattle.hp_model.proofs.Words.{Mount, file_in, is_live, is_map, map_in, place_at, spot}
use Rattle.hp_mount_files.proofs.Lent.{len_lent, live_lent}
use Rattle.hp_mount.specs.Found.{tests_of, why_not}
use Rattle.hp_mount_laws.specs.Reach.{first_of, spot_at}
use Rattle.hp_mount.proofs.Commands.{why_of}
use Rattle.hp_mount.proofs.Refusing.{not_live}
use Rattle.hp_mount.proofs.mount.Mount.place.Given.{Over}
use Rattle.hp_mount.proofs.mount.Mount.place.Goals as goal
use Rattle.hp_mount.proofs.mount.Mount.place.Goals.{After-is_live, In-Some}

-- the map is there
module _ (g : Over) (c : In-Some g) where
  found : spot c.args.self.now (is_map c.args.access.now.task c.args.access.now.map) ≡ Some (spot_at c.args.self.now c.in-Some.at.file c.in-Some.at.map)
  found =
      let o = c.self.inside in
      let a = c.args.access.now in
      let at = c.in-Some.at in
      let limits : Limits = record { max = o.share.max; min = o.share.min; inodes = o.inodes } in
      subst (λ (x : Mount). spot x (is_map a.task a.map) ≡ Some (spot_at x at.file at.map)) c.self.view_is (c.in-Some.ensures.some.is limits)

  why : {e : Refusal} → Some e ≡ first_of (tests_of c.args.page_bytes c.args.access.now.index c.args.asked (spot_at c.args.self.now c.in-Some.at.file c.in-Some.at.map))
      → why_not c.args.self.now c.args.access.now c.args.asked c.args.page_bytes ≡ Some e
  why first = ap (why_of c.args.page_bytes c.args.access.now.index c.args.asked) found ∙ sym first

-- whether the index is the map's
module _ (g : Over) (c : After-is_live g) where
  live : {b : Bool} → c.is_live.result ≡ b → is_live (place_at (map_in (file_in c.args.self.now c.in-Some.at.file) c.in-Some.at.map) c.args.access.now.index) ≡ b
  live is =
      sym (ap (λ (x : Mount). is_live (place_at (map_in (file_in x c.in-Some.at.file) c.in-Some.at.map) c.args.access.now.index)) c.self.view_is)
      ∙ sym (c.is_live.ensures ∙ live_lent c.map.ensures c.args.access.now.index) ∙ is

pub returns-in_default-clause-refused : goal.returns-in_default-clause-refused
returns-in_default-clause-refused g c =
    let o = c.self.inside in
    let a = c.args.access.now in
    let limits : Limits = record { max = o.share.max; min = o.share.min; inodes = o.inodes } in
    ap (why_of c.args.page_bytes a.index c.args.asked) (subst (λ (x : Mount). spot x (is_map a.task a.map) ≡ None) c.self.view_is (c.in_default.ensures.none limits))

pub returns-then-not-is_live-clause-refused : goal.returns-then-not-is_live-clause-refused
returns-then-not-is_live-clause-refused g c =
    let over = goal.at.returns-then-not-is_live-clause-refused g c in
    why g over.In-Some
    (not_live c.args.page_bytes c.args.access.now.index c.args.asked (spot_at c.args.self.now c.in-Some.at.file c.in-Some.at.map) (live g over.After-is_live c.if-not-is_live.true))

pub returns-then-count-eq0-clause-refused : goal.returns-then-count-eq0-clause-refused
returns-then-count-eq0-clause-refused g c = why g (goal.at.returns-then-count-eq0-clause-refused g c).In-Some (grind (arith, common_steps, nat_tests, live_lent))

pub returns-then-offset-page_bytes-clause-refused : goal.returns-then-offset-page_bytes-clause-refused
returns-then-offset-page_bytes-clause-refused g c = why g (goal.at.returns-then-offset-page_bytes-clause-refused g c).In-Some (grind (arith, common_steps, nat_tests, live_lent))

pub returns-then-count-clause-refused : goal.returns-then-count-clause-refused
returns-then-count-clause-refused g c = why g (goal.at.returns-then-count-clause-refused g c).In-Some (grind (arith, common_steps, nat_tests, live_lent))

pub returns-then-access-len-clause-refused : goal.returns-then-access-len-clause-refused
returns-then-access-len-clause-refused g c = why g (goal.at.returns-then-access-len-clause-refused g c).In-Some (grind (arith, common_steps, nat_tests, len_lent, live_lent))

pub returns-clause-placed : goal.returns-clause-placed
returns-clause-placed g c =
    let over = goal.at.returns-clause-placed g c in
    let at = c.in-Some.at in
    let there = c.in-Some.ensures.some in
    record {
      found = found g over.In-Some;
      pass = grind (arith, common_steps, nat_tests, len_lent, live_lent);
      file = subst (λ (x : Mount). at.file < length x.files) c.self.view_is there.file_within;
      map = subst (λ (x : Mount). at.map < length (file_in x at.file).maps) c.self.view_is there.map_within;
      below = grind (arith, common_steps, nat_tests, len_lent);
      live = live g over.After-is_live c.if-not-is_live.false;
    }
