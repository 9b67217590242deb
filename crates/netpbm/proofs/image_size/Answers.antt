-- `netpbm::image_size` asks the description, then the format. Assumes nothing.
use Rattle.frames.specs.Description.{description_tests}
use Rattle.frames.proofs.Answer.{refused_size}
use Rattle.refusals.proofs.First.{refused}
use Rattle.refusals.proofs.Numbers.{some_number}
use Rattle.netpbm.specs.Written.{image_size_tests}
use Rattle.netpbm.proofs.image_size.Goals as goal

pub returns-in_err-accept_description : goal.returns-in_err-accept_description
unfolding image_size_tests
returns-in_err-accept_description c =
    refused_size _ _ c.from_residual.ensures (refused (description_tests c.args.frame) _ c.in_err-accept_description.ensures.number (some_number c.in_err-accept_description.field-0.0)) _
