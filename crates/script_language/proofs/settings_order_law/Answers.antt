use Rattle.script_language.proofs.ExchangeLaws.{kept, taken}
use Rattle.script_language.proofs.settings_order_law.Goals as goal

pub returns-clause-kept : goal.returns-clause-kept
returns-clause-kept c = kept

pub returns-clause-first : goal.returns-clause-first
returns-clause-first c = λ i racing before x y behind bytes swapped without h. taken i racing before x y behind bytes swapped h without
