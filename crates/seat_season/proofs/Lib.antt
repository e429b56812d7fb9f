mod DeskLaws
mod FolderLaws
mod WordLaws
