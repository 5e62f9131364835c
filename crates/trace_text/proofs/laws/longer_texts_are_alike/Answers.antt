use Rattle.std.proofs.Common.{Result, Ok, ap}
use Rattle.bq_model.specs.declared.fault.TextFault.{TextFault}
use Rattle.text_lines.specs.Parts.{◌>>=◌}
use Rattle.trace_text.specs.HistoryText.{History}
use Rattle.trace_text.specs.Verdicts.{verdict_of}
use Rattle.trace_text.specs.Played.{Playing}
use Rattle.trace_text.specs.Printed.{play_text}
use Rattle.trace_text.proofs.GrammarLemmas.{hist_of-take, play_of-take}
use Rattle.trace_text.proofs.laws.longer_texts_are_alike.Goals as goal

pub returns-clause-histories : goal.returns-clause-histories
returns-clause-histories c = λ text. ap (λ (said : Result History TextFault). said >>= (λ history. Ok (verdict_of history))) (hist_of-take text)

pub returns-clause-schedules : goal.returns-clause-schedules
returns-clause-schedules c = λ text. ap (λ (said : Result Playing TextFault). said >>= (λ p. Ok (play_text p))) (play_of-take text)
