use Rattle.std.proofs.Common.{◌≡◌, ℕ, List, None, Ok, Some, length, take, drop, refl, sym, ap, subst, ◌∙◌, arith}
use denote.Ref.{Bor}
use Rattle.hp_model.specs.declared.event.SlotEvent.TheVariants.{Read}
use Rattle.hp_model.proofs.Words.{Answered, Finish, Mount, Reply, bytes_answer, bytes_reply, cell_at, file_in, file_named, read, read_tests, shown}
use Rattle.hp_mount_laws.specs.Alone.{IsDoneAlone}
use Rattle.hp_mount_laws.specs.Reach.{first_of}
use Rattle.hp_mount_laws.proofs.Trying.{tests_fail, tests_pass}
use Rattle.hp_mount_laws.proofs.Looking.{is_answered, is_refused, not_named}
use Rattle.hp_mount_laws.proofs.Shown.{bytes_reply_is}
use Rattle.hp_mount.proofs.mount.Mount.read.Given.{Over}
use Rattle.hp_mount.proofs.mount.Mount.read.Goals as goal
use Rattle.hp_mount.proofs.mount.Mount.read.Goals.{After-bytes}

pub returns-in_default-clause-done : goal.returns-in_default-clause-done
returns-in_default-clause-done g c k =
    let m = c.args.self.now in
    let a = c.args in
    not_named g.N.Naming.page_bytes k m a.name.now (Read a.name.now a.index a.offset a.count) (read g.N.Naming.page_bytes m a.index a.offset a.count) (λ x. refl)
    (subst (λ (x : Mount). file_named x a.name.now ≡ None) c.self.view_is c.in_default.ensures.none)

pub returns-in-Some-refused_read-clause-done : goal.returns-in-Some-refused_read-clause-done
returns-in-Some-refused_read-clause-done g c k =
    let m = c.args.self.now in
    let a = c.args in
    let size = g.N.Naming.page_bytes in
    let file = c.in-Some.file in
    let f = file_in m file in
    let named = subst (λ (x : Mount). file_named x a.name.now ≡ Some (file, file_in x file)) c.self.view_is c.in-Some.ensures.some.is in
    let why = subst (λ n. first_of (read_tests n a.index a.offset a.count f) ≡ Some c.in-Some-refused_read.refusal) c.requires.page_bytes
    (sym c.refused_read.ensures.first ∙ c.in-Some-refused_read.is) in
    is_refused size k m a.name.now (Read a.name.now a.index a.offset a.count) (read size m a.index a.offset a.count) (λ x. refl) (file, f) named c.in-Some-refused_read.refusal
    (tests_fail (read_tests size a.index a.offset a.count f) (Finish (Answered (bytes_answer a.offset a.count (shown size (cell_at f a.index))) (Some m))) c.in-Some-refused_read.refusal why)

-- what it is answered are bytes of the page
module _ (g : Over) (c : After-bytes g) where
  answered : (k : ℕ) (bytes : Bor (List ℕ)) → length bytes.now ≡ c.args.count
      → bytes.now ≡ take c.args.count (drop c.args.offset (shown g.N.Naming.page_bytes (cell_at (file_in c.args.self.now c.in-Some.file) c.args.index)))
      → IsDoneAlone g.N.Naming.page_bytes k (Some c.args.self.now) (Read c.args.name.now c.args.index c.args.offset c.args.count) (bytes_reply (Ok bytes)) (Some c.args.self.now)
  answered k bytes all is =
      let m = c.args.self.now in
      let a = c.args in
      let size = g.N.Naming.page_bytes in
      let file = c.in-Some.file in
      let f = file_in m file in
      let named = subst (λ (x : Mount). file_named x a.name.now ≡ Some (file, file_in x file)) c.self.view_is c.in-Some.ensures.some.is in
      let pass = subst (λ n. first_of (read_tests n a.index a.offset a.count f) ≡ None) c.requires.page_bytes (sym c.refused_read.ensures.first ∙ c.in_default-refused_read.is) in
      let shows = bytes_answer a.offset a.count (shown size (cell_at f a.index)) in
      subst (λ (r : Reply). IsDoneAlone size k (Some m) (Read a.name.now a.index a.offset a.count) r (Some m))
      (sym (bytes_reply_is bytes a.offset a.count (shown size (cell_at f a.index)) all is))
      (is_answered size k m a.name.now (Read a.name.now a.index a.offset a.count) (read size m a.index a.offset a.count) (λ x. refl) (file, f) named shows shows
      (tests_pass (read_tests size a.index a.offset a.count f) (Finish (Answered shows (Some m))) pass) refl)

pub returns-in-Some-bytes-clause-done : goal.returns-in-Some-bytes-clause-done
returns-in-Some-bytes-clause-done g c k =
    let a = c.args in
    answered g (goal.at.returns-in-Some-bytes-clause-done g c).After-bytes k c.bytes_of.result c.bytes_of.ensures.all
    (c.bytes_of.ensures.bytes ∙ ap (λ bs. take a.count (drop a.offset bs)) (c.in-Some-bytes.ensures.some
    ∙ ap (λ (x : Mount). shown g.N.Naming.page_bytes (cell_at (file_in x c.in-Some.file) a.index)) c.self.view_is))

pub returns-in-None-clause-done : goal.returns-in-None-clause-done
returns-in-None-clause-done g c k =
    let a = c.args in
    let size = g.N.Naming.page_bytes in
    let fits = c.in_default-refused_read.ensures.fits in
    let same = c.requires.page_bytes in
    answered g (goal.at.returns-in-None-clause-done g c).After-bytes k c.zeros_of.result c.zeros_of.ensures.all
    (c.zeros_of.ensures.zeros size a.offset (omega (arith, fits, same)) ∙ ap (λ bs. take a.count (drop a.offset bs)) (sym c.in-None.ensures.none
    ∙ ap (λ (x : Mount). shown size (cell_at (file_in x c.in-Some.file) a.index)) c.self.view_is))
