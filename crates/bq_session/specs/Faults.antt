-- What a session answers where the lane refuses.
use Rattle.bq_model.specs.declared.error.Refusal.{Refusal}
use Rattle.bq_model.specs.declared.error.Refusal.TheVariants as refusal
use Rattle.bq_session.specs.declared.error.PlainFault.{PlainFault}
use Rattle.bq_session.specs.declared.error.PlainFault.TheVariants as fault

abbrev pub plain_fault : Refusal → PlainFault
plain_fault refusal.Spent = fault.Spent
plain_fault refusal.Full = fault.Full
