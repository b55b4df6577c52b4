use Rattle.std.proofs.Common.{◌≡◌, map, length, string_bytes, ap, subst, arith, IfSome, Err}
use Rattle.commands.proofs.FileLemmas.{read_more, end_more, unread_first, over_here, no_fault}
use Rattle.commands.proofs.files.+read_each.Goals as goal

pub returns-clause-read : goal.returns-clause-read
returns-clause-read g t c =
    read_more (g.F.Folder.told c.args.folder.now) (g.F.Folder.told c.read_file.new.folder) (g.F.Folder.faults c.args.folder.now) (g.F.Folder.faults c.read_file.new.folder) (g.F.Folder.faults c.read_each.new.folder)
    c.in-Some.limit.now c.in-Some.more.now c.args.limits.now
    (string_bytes c.in-Some-split_first.name.now) (map string_bytes c.in-Some-split_first.others.now) (map string_bytes c.args.names.now) c.in-Ok.bytes.items
    c.in-Some.ensures.cases.0 (ap (map string_bytes) c.in-Some-split_first.ensures.cases.0) c.in-Ok.ensures.told c.in-Ok.ensures.calm
    (subst (λ n. IfSome (g.F.Folder.told c.args.folder.now n) (λ file. c.in-Ok.bytes.items ≡ file)) c.as_str.ensures.value c.in-Ok.ensures.whole) c.in-Ok.ensures.within
    (map (λ file. file.items) c.args.files.now.items) (map (λ file. file.items) c.keep.new.files.items) (map (λ file. file.items) c.read_each.new.files.items) c.read_each.result c.in_ok-keep.ensures c.read_each.ensures.read

pub returns-clause-end : goal.returns-clause-end
returns-clause-end g t c =
    end_more (g.F.Folder.told c.args.folder.now) (g.F.Folder.told c.read_file.new.folder) (g.F.Folder.faults c.args.folder.now) (g.F.Folder.faults c.read_file.new.folder) (g.F.Folder.faults c.read_each.new.folder)
    c.in-Some.limit.now c.in-Some.more.now c.args.limits.now
    (string_bytes c.in-Some-split_first.name.now) (map string_bytes c.in-Some-split_first.others.now) (map string_bytes c.args.names.now) c.in-Ok.bytes.items
    c.in-Some.ensures.cases.0 (ap (map string_bytes) c.in-Some-split_first.ensures.cases.0) c.in-Ok.ensures.told c.in-Ok.ensures.calm
    (subst (λ n. IfSome (g.F.Folder.told c.args.folder.now n) (λ file. c.in-Ok.bytes.items ≡ file)) c.as_str.ensures.value c.in-Ok.ensures.whole) c.in-Ok.ensures.within c.read_each.result c.read_each.ensures.end

pub returns-in-Err-Fault-clause-end : goal.returns-in-Err-Fault-clause-end
returns-in-Err-Fault-clause-end g t c =
    unread_first (g.F.Folder.told c.args.folder.now) (g.F.Folder.faults c.args.folder.now) (g.F.Folder.faults c.read_file.new.folder) c.args.limits.now
    (string_bytes c.in-Some-split_first.name.now) c.as_str.result.now c.as_str-in-Err-Fault.result.now (map string_bytes c.in-Some-split_first.others.now) (map string_bytes c.args.names.now)
    (ap (map string_bytes) c.in-Some-split_first.ensures.cases.0) c.as_str.ensures.value c.as_str-in-Err-Fault.ensures.value
    (c.in-Err-Fault.ensures.fault (ap Err c.in-Err-Fault.field-0-is)) c.in-Err-Fault.ensures.others

pub returns-in-Err-TooLarge-clause-end : goal.returns-in-Err-TooLarge-clause-end
returns-in-Err-TooLarge-clause-end g t c =
    over_here (g.F.Folder.told c.args.folder.now) (g.F.Folder.faults c.args.folder.now) (g.F.Folder.faults c.read_file.new.folder) c.in-Some.limit.now c.in-Some.more.now c.args.limits.now
    (string_bytes c.in-Some-split_first.name.now) c.as_str.result.now c.as_str-in-Err-TooLarge.result.now (map string_bytes c.in-Some-split_first.others.now) (map string_bytes c.args.names.now)
    c.in-Some.ensures.cases.0 (ap (map string_bytes) c.in-Some-split_first.ensures.cases.0) c.as_str.ensures.value c.as_str-in-Err-TooLarge.ensures.value
    (c.in-Err-TooLarge.ensures.too_large (ap Err c.in-Err-TooLarge.field-0-is)) (c.in-Err-TooLarge.ensures.calm_end (no_fault c.in-Err-TooLarge.field-0 c.in-Err-TooLarge.field-0-is))

pub returns-clause-opened : goal.returns-clause-opened
returns-clause-opened g t c = omega (arith, c.in-Ok.ensures.opened, c.read_each.ensures.opened, ap length c.in-Some-split_first.ensures.cases.0)
