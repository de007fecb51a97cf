-- The administrative commands: their words, and what each takes of the devices. This project's own.
use Rattle.std.specs.Prelude.{ℕ, Bool, true, false, List, [], ◌∷◌, Option, None, Some, bytes_eq, codes, if◌then◌else◌, option_map}
use Rattle.site_commands.specs.declared.store_command.StoreCommand.{StoreCommand}
use Rattle.site_commands.specs.declared.store_command.StoreCommand.TheVariants as commands

-- what the words ask for
pub data Administration : Type 0 where
  ToAddUser : (name email : List ℕ) (superuser : Bool) → Administration
  ToChangePassword : (name : List ℕ) → Administration
  ToSetActive : (name : List ℕ) (active : Bool) → Administration
  ToSetMembership : (name group : List ℕ) (member : Bool) → Administration
  ToClearSessions : Administration
  ToRotateKey : Administration
  ToRetireKeys : Administration
  ToTakeMails : Administration

-- what a command asks for
abbrev pub asked_by_command : StoreCommand → Administration
asked_by_command (commands.AddUser name email superuser) = ToAddUser name.now email.now superuser
asked_by_command (commands.ChangePassword name) = ToChangePassword name.now
asked_by_command (commands.SetActive name active) = ToSetActive name.now active
asked_by_command (commands.SetMembership name group member) = ToSetMembership name.now group.now member
asked_by_command commands.ClearSessions = ToClearSessions
asked_by_command commands.RotateKey = ToRotateKey
asked_by_command commands.RetireKeys = ToRetireKeys
asked_by_command commands.Outbox = ToTakeMails

-- after `adduser` and `addsuper` there are a name and an address
abbrev pub adding_of : Bool → List (List ℕ) → Option Administration
adding_of superuser [] = None
adding_of superuser (name ∷ []) = None
adding_of superuser (name ∷ email ∷ []) = Some (ToAddUser name email superuser)
adding_of superuser (name ∷ email ∷ word ∷ words) = None

-- after `changepassword` there is a name
abbrev pub changing_of : List (List ℕ) → Option Administration
changing_of [] = None
changing_of (name ∷ []) = Some (ToChangePassword name)
changing_of (name ∷ word ∷ words) = None

-- a switch is `on` or `off`
abbrev pub switch_of : List ℕ → Option Bool
switch_of word = if bytes_eq word (codes "on") then Some true else (if bytes_eq word (codes "off") then Some false else None)

-- after `setactive` there are a name and a switch
abbrev pub active_of : List (List ℕ) → Option Administration
active_of [] = None
active_of (name ∷ []) = None
active_of (name ∷ switch ∷ []) = option_map (ToSetActive name) (switch_of switch)
active_of (name ∷ switch ∷ word ∷ words) = None

-- after `member` there are a user's name, a group's name and a switch
abbrev pub membership_of : List (List ℕ) → Option Administration
membership_of [] = None
membership_of (name ∷ []) = None
membership_of (name ∷ group ∷ []) = None
membership_of (name ∷ group ∷ switch ∷ []) = option_map (ToSetMembership name group) (switch_of switch)
membership_of (name ∷ group ∷ switch ∷ word ∷ words) = None

-- the commands that have no word of their own
abbrev pub named_alone : List ℕ → Option Administration
named_alone name =
    if bytes_eq name (codes "clearsessions") then Some ToClearSessions
    else (if bytes_eq name (codes "rotate-key") then Some ToRotateKey
    else (if bytes_eq name (codes "retire-keys") then Some ToRetireKeys
    else (if bytes_eq name (codes "outbox") then Some ToTakeMails else None)))

abbrev pub asked_alone : List ℕ → List (List ℕ) → Option Administration
asked_alone name [] = named_alone name
asked_alone name (word ∷ words) = None

-- by the name of the command
abbrev pub asked_by : List ℕ → List (List ℕ) → Option Administration
asked_by name rest =
    if bytes_eq name (codes "adduser") then adding_of false rest
    else (if bytes_eq name (codes "addsuper") then adding_of true rest
    else (if bytes_eq name (codes "changepassword") then changing_of rest
    else (if bytes_eq name (codes "setactive") then active_of rest
    else (if bytes_eq name (codes "member") then membership_of rest else asked_alone name rest))))

-- a password or a key comes from the input
abbrev pub reads_line : Administration → Bool
reads_line (ToAddUser name email superuser) = true
reads_line (ToChangePassword name) = true
reads_line ToRotateKey = true
reads_line _ = false

-- a password text is made, whose salt takes random words
abbrev pub draws_words : Administration → Bool
draws_words (ToAddUser name email superuser) = true
draws_words (ToChangePassword name) = true
draws_words _ = false

-- the step has a moment
abbrev pub needs_moment : Administration → Bool
needs_moment ToClearSessions = true
needs_moment _ = false
