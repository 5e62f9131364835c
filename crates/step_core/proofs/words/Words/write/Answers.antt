use Rattle.std.proofs.Common.{rules, ◌∙◌, ap, sym}
use Rattle.word_rows.specs.declared.link_word.LinkWord.TheVariants.{Nil}
use Rattle.word_rows.specs.declared.location.Location.{Location}
use Rattle.word_rows.specs.Opening.{opening_marks}
use Rattle.lane_steps.specs.Functions.{put}
use Rattle.lane_steps.specs.State.{write}
use Rattle.step_core.specs.Words.{memory_of}
use Rattle.step_core.proofs.Fields.{set_put, set_put_by}
use Rattle.step_core.proofs.words.Words.write.Goals as goal

pub returns-in-Link-clause-memory : goal.returns-in-Link-clause-memory
returns-in-Link-clause-memory c = let w = c.args.self.now in (λ i. record (memory_of w) { link = (set_put w.links.items c.in-Link.row c.link_in.result Nil (search rules) ∙ ap (put (memory_of w).link c.in-Link.row) c.link_in.ensures) i })
    ∙ ap (λ (l : Location). write (memory_of w) l c.args.content) (sym c.in-Link.is)

pub returns-in-Value-clause-memory : goal.returns-in-Value-clause-memory
returns-in-Value-clause-memory c = let w = c.args.self.now in (λ i. record (memory_of w) { value = (set_put w.values.items c.in-Value.row c.value_in.result 0 (search rules) ∙ ap (put (memory_of w).value c.in-Value.row) c.value_in.ensures) i })
    ∙ ap (λ (l : Location). write (memory_of w) l c.args.content) (sym c.in-Value.is)

pub returns-in-Mark-clause-memory : goal.returns-in-Mark-clause-memory
returns-in-Mark-clause-memory c = let w = c.args.self.now in (λ i. record (memory_of w) { mark = (set_put_by w.marks.items c.in-Mark.row c.mark_in.result opening_marks (search rules) ∙ ap (put (memory_of w).mark c.in-Mark.row) c.mark_in.ensures) i })
    ∙ ap (λ (l : Location). write (memory_of w) l c.args.content) (sym c.in-Mark.is)
