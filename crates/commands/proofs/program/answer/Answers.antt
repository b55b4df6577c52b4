use Rattle.std.proofs.Common.{map}
use Rattle.commands.proofs.Rows.{check_answers, print_answers, run_answers, serialise_answers, serialise_open_answers, blame_answers, verify_blame_answers, levels_answers, replay_answers, generate_answers, derive_answers, verify_answers}
use Rattle.commands.proofs.program.answer.Goals as goal

pub returns-in-Check : goal.returns-in-Check
returns-in-Check c = check_answers c.args.command (map (λ file. file.items) c.args.files.now) c.file_at.result.now c.check.result c.in-Check.is c.file_at.ensures c.check.ensures

pub returns-in-Print : goal.returns-in-Print
returns-in-Print c = print_answers c.args.command (map (λ file. file.items) c.args.files.now) c.file_at-in-Print.result.now c.print.result c.in-Print.is c.file_at-in-Print.ensures c.print.ensures

pub returns-in-Run : goal.returns-in-Run
returns-in-Run c =
    run_answers c.args.command (map (λ file. file.items) c.args.files.now) c.file_at-in-Run.result.now c.file_at-in-Run-2.result.now c.run_schedule.result
    c.in-Run.is c.file_at-in-Run.ensures c.file_at-in-Run-2.ensures c.run_schedule.ensures

pub returns-in-Serialise : goal.returns-in-Serialise
returns-in-Serialise c =
    serialise_answers c.args.command (map (λ file. file.items) c.args.files.now) c.file_at-in-Serialise.result.now c.file_at-in-Serialise-2.result.now c.serialise.result
    c.in-Serialise.is c.file_at-in-Serialise.ensures c.file_at-in-Serialise-2.ensures c.serialise.ensures

pub returns-in-Derive : goal.returns-in-Derive
returns-in-Derive c = derive_answers c.args.command (map (λ file. file.items) c.args.files.now) c.file_at-in-Derive.result.now c.derive_book.result c.in-Derive.is c.file_at-in-Derive.ensures c.derive_book.ensures

pub returns-in-Verify : goal.returns-in-Verify
returns-in-Verify c =
    verify_answers c.args.command (map (λ file. file.items) c.args.files.now) c.file_at-in-Verify.result.now c.file_at-in-Verify-2.result.now c.verify_book.result
    c.in-Verify.is c.file_at-in-Verify.ensures c.file_at-in-Verify-2.ensures c.verify_book.ensures

pub returns-in-SerialiseOpen : goal.returns-in-SerialiseOpen
returns-in-SerialiseOpen c =
    serialise_open_answers c.args.command (map (λ file. file.items) c.args.files.now) c.file_at-in-SerialiseOpen.result.now c.file_at-in-SerialiseOpen-2.result.now c.serialise_open.result
    c.in-SerialiseOpen.is c.file_at-in-SerialiseOpen.ensures c.file_at-in-SerialiseOpen-2.ensures c.serialise_open.ensures

pub returns-in-Generate : goal.returns-in-Generate
returns-in-Generate c = generate_answers c.args.command (map (λ file. file.items) c.args.files.now) c.in-Generate.workers c.generate_figures.result c.in-Generate.is c.generate_figures.ensures

pub returns-in-Blame : goal.returns-in-Blame
returns-in-Blame c =
    blame_answers c.args.command (map (λ file. file.items) c.args.files.now) c.file_at-in-Blame.result.now c.blame_source.result
    c.in-Blame.is c.file_at-in-Blame.ensures c.blame_source.ensures

pub returns-in-VerifyBlame : goal.returns-in-VerifyBlame
returns-in-VerifyBlame c =
    verify_blame_answers c.args.command (map (λ file. file.items) c.args.files.now) c.file_at-in-VerifyBlame.result.now c.file_at-in-VerifyBlame-2.result.now c.verify_blame.result
    c.in-VerifyBlame.is c.file_at-in-VerifyBlame.ensures c.file_at-in-VerifyBlame-2.ensures c.verify_blame.ensures

pub returns-in-Levels : goal.returns-in-Levels
returns-in-Levels c =
    levels_answers c.args.command (map (λ file. file.items) c.args.files.now) c.file_at-in-Levels.result.now c.file_at-in-Levels-2.result.now c.order_levels.result
    c.in-Levels.is c.file_at-in-Levels.ensures c.file_at-in-Levels-2.ensures c.order_levels.ensures

pub returns-in-Replay : goal.returns-in-Replay
returns-in-Replay c =
    replay_answers c.args.command (map (λ file. file.items) c.args.files.now) c.file_at-in-Replay.result.now c.file_at-in-Replay-2.result.now c.replay_calls.result
    c.in-Replay.is c.file_at-in-Replay.ensures c.file_at-in-Replay-2.ensures c.replay_calls.ensures
