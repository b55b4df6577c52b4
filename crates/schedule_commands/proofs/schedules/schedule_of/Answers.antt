-- The first fault of the text.
use Rattle.std.proofs.Common.{Err, ap}
use Rattle.schedule_commands.specs.Schedules.{form, too_long}
use Rattle.schedule_commands.proofs.schedules.schedule_of.Goals as goal

pub refuse_text-requires-clause-stands : goal.refuse_text-requires-clause-stands
refuse_text-requires-clause-stands c = form c.in-Err-Form.place (c.in-Err-Form.ensures.form c.in-Err-Form.place (ap Err c.in-Err-Form.field-0-is))

pub refuse_text-requires-in-Err-TooLong-clause-stands : goal.refuse_text-requires-in-Err-TooLong-clause-stands
refuse_text-requires-in-Err-TooLong-clause-stands c = too_long c.in-Err-TooLong.place (c.in-Err-TooLong.ensures.too_long c.in-Err-TooLong.place (ap Err c.in-Err-TooLong.field-0-is))
