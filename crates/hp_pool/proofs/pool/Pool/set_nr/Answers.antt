use Rattle.std.proofs.Common.{◌≡◌, ◌-◌, rules, arith, min}
use Rattle.hp_model.proofs.Words.{frames_of, lower_times, raise_times, used_of}
use Rattle.hp_pool.proofs.Sets.{set_nr_is}
use Rattle.hp_pool.proofs.pool.Pool.set_nr.Goals as goal

pub returns-clause-moved : goal.returns-clause-moved
returns-clause-moved g c =
    let s = c.self.inside in
    let t = c.raise.new.lists in
    let u = c.lower.new.lists in
    let target = c.min-target.result in
    let target_is : target ≡ min c.args.n (frames_of s.lists.rows) = search rules in
    let raises : t ≡ raise_times (target - s.nr) s.lists = search rules in
    let lowers : u ≡ lower_times s.book (s.nr - target) t = search rules in
    let same : used_of u.rows ≡ used_of s.lists.rows = omega (arith, c.raise.ensures.free, c.lower.ensures.free) in
    rw (← c.self.view_is) (set_nr_is s.nr s.overcommit s.book c.args.n target s.lists t u target_is raises lowers same)
