use Rattle.std.proofs.Common.{refl, rules, inl, inr}
use Rattle.hp_words.proofs.Values.{bad_value, page_is_bad}
use Rattle.hp_words.specs.Asked.{CanBe, page_bytes}
use Rattle.hp_words.proofs.config.machine_of.Goals as goal

pub returns-then-not-is_power_of_two-clause-wrong : goal.returns-then-not-is_power_of_two-clause-wrong
returns-then-not-is_power_of_two-clause-wrong c = inr (
  search rules,
  inl (refl, bad_value _ _ (CanBe page_bytes) c.text_of-2.ensures (page_is_bad c.text_of-2.result c.in_ok-page.page c.in_ok-page.ensures.reads (search rules))),
)
