use Rattle.std.proofs.Common.{refl}
use Rattle.hp_inode.proofs.Bare.{holes_kept, pageless}
use Rattle.hp_inode.proofs.Taken.{no_page_there, found_no_page}
use Rattle.hp_inode.proofs.Inode.take_page.Goals as goal

pub returns-in_default-clause-page : goal.returns-in_default-clause-page
returns-in_default-clause-page c =
    let none = found_no_page _ _ _ _ (holes_kept c.in_default.is c.self.invariant) c.args.a c.args.b (λ k low high. pageless k) in
    rw (← c.self.view_is, c.in_default.is, none) refl

pub returns-in_default-clause-cells : goal.returns-in_default-clause-cells
returns-in_default-clause-cells c =
    let none = found_no_page _ _ _ _ (holes_kept c.in_default.is c.self.invariant) c.args.a c.args.b (λ k low high. pageless k) in
    rw (← c.self.view_is, c.in_default.is, none) refl

pub returns-in_default-clause-none : goal.returns-in_default-clause-none
returns-in_default-clause-none c is =
    rw c.in_default.is (no_page_there _ _ _ _ (holes_kept c.in_default.is c.self.invariant) c.args.a c.args.b (λ k low high. pageless k))
